use Rattle.std.specs.Prelude.{codes}
use Rattle.board_stones.specs.declared.stones.Colour.TheVariants.{Black, White}
use Rattle.sgf_lines.specs.Script.{stone_commands}
use Rattle.sgf_lines.proofs.CutTexts.{joins_three}
use Rattle.sgf_lines.proofs.form.commands.push_board.Goals as goal

pub returns : goal.returns
returns c =
    let g = c.args.board.now in
    joins_three c.push_stones-2.result c.args.output.now.items c.push_bytes.new.output.items c.push_stones.new.output.items c.push_stones-2.new.output.items
    (codes "clear_board\n") (stone_commands g Black) (stone_commands g White) c.in_ok-push_bytes.ensures c.in_ok-push_stones.ensures c.push_stones-2.ensures
