use Rattle.sgf_lines.proofs.Common.{rules, arith, common_steps, length-decimal-le}
use Rattle.sgf_lines.proofs.form.text_row.TextRow.put_number.Goals as goal

pub write_digits-self-requires : goal.write_digits-self-requires
write_digits-self-requires c = search (rules, length-decimal-le 20)

pub returns-clause-room : goal.returns-clause-room
returns-clause-room c = grind (arith, common_steps, length-decimal-le 20)
