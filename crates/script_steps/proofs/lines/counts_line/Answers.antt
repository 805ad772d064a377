use Rattle.std.proofs.Common.{◌≡◌, ◌++◌, ap, ◌∙◌}
use Rattle.std.specs.Prelude.{codes, string_bytes}
use Rattle.std.specs.Fmt.{decimal}
use Rattle.script_steps.specs.Lines.{backs_text, count_of}
use Rattle.script_steps.proofs.LineLemmas.{seven}
use Rattle.script_steps.proofs.lines.counts_line.Goals as goal

pub returns : goal.returns
unfolding lib.Utf8.encode
returns c =
    let h = c.args.history.now in
    let first : string_bytes c.push_count.new.line ≡ codes "entries" ++ (codes " queued " ++ decimal (count_of 0 h)) =
    c.in_ok-push_count.ensures ∙ ap (λ s. s ++ (codes " queued " ++ decimal (count_of 0 h))) c.in_ok-line.ensures.ok in
    seven (codes "entries") (string_bytes c.push_count.new.line) (string_bytes c.push_count-2.new.line) (string_bytes c.push_count-3.new.line) (string_bytes c.push_count-4.new.line)
    (string_bytes c.push_count-5.new.line) (string_bytes c.push_count-6.new.line) (string_bytes c.push_backs.new.line) (string_bytes c.push.new.self)
    (codes " queued " ++ decimal (count_of 0 h)) (codes " taken " ++ decimal (count_of 1 h)) (codes " beat " ++ decimal (count_of 2 h)) (codes " ran " ++ decimal (count_of 3 h))
    (codes " replied " ++ decimal (count_of 4 h)) (codes " swept " ++ decimal (count_of 5 h)) (backs_text (count_of 6 h))
    first c.in_ok-push_count-2.ensures c.in_ok-push_count-3.ensures c.in_ok-push_count-4.ensures c.in_ok-push_count-5.ensures c.in_ok-push_count-6.ensures c.in_ok-push_backs.ensures c.in_ok-push.ensures.bytes
