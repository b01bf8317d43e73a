-- What is said of the text is said of the run, whatever source gave it.
use Rattle.sgf_lines.proofs.Common.{◌≡◌, take, drop, Err, ap, ◌∙◌, rules, unwrap_or, err_from_is_err_and, node_count, lines, WritesLines}
use Rattle.sgf_lines.proofs.PlayCounts.{for_options}
use Rattle.sgf_lines.proofs.Running.{no_start_run, unread_run, lines_run}
use Rattle.sgf_lines.proofs.run.split_text.Goals as goal

pub returns-in_err-cursor : goal.returns-in_err-cursor
returns-in_err-cursor g c source new_source read = search (rules, err_from_is_err_and, no_start_run)

pub returns : goal.returns
returns g c source new_source read =
    let o = c.args.options.now in
    let games = c.in-Ok.outline in
    let cursor = c.in_ok-cursor.cursor in
    let sink = g.T.Sink.state c.args.sink.now in
    let new_sink = g.T.Sink.state c.write_in.new.sink in
    let plays = c.write_in.ensures.answer.0 in
    let limit : c.unwrap_or-limit.result ≡ unwrap_or o.limit (node_count games) = c.unwrap_or-limit.ensures ∙ ap (unwrap_or o.limit) c.nodes.ensures.count in
    let wrote : WritesLines o.form (take c.unwrap_or-limit.result (drop cursor.at.index (lines games))) sink new_sink plays c.write_in.result = rw c.in_ok-cursor.ensures.same at c.write_in.ensures.answer.2 in
    lines_run o source new_source c.args.text.now read sink c.args.plays.now games cursor new_sink plays c.write_in.new.plays c.write_in.result c.in-Ok.ensures.spelled
    (c.in_ok-cursor.ensures.start c.args.text.now c.in-Ok.ensures.spelled) (for_options o.form games cursor.at.index o.limit c.unwrap_or-limit.result sink new_sink plays c.write_in.result limit wrote)
    c.write_in.ensures.answer.1 c.write_in.ensures.delivered c.write_in.ensures.failures

pub returns-in-Err : goal.returns-in-Err
returns-in-Err g c source new_source read =
    rw c.unread.ensures
    (unread_run c.args.options.now source new_source c.args.text.now read (g.T.Sink.state c.args.sink.now) c.args.plays.now c.in-Err.fault
    (λ e. c.in-Err.ensures.too_long.0 (ap Err e)) c.in-Err.ensures.not_sgf)
