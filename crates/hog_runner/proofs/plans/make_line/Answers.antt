use Rattle.std.proofs.Common.{◌≡◌, ◌++◌, ap, ◌∙◌}
use Rattle.std.specs.Prelude.{codes, string_bytes}
use Rattle.std.specs.Fmt.{decimal}
use Rattle.script_steps.proofs.LineLemmas.{seven}
use Rattle.hog_runner.proofs.plans.make_line.Goals as goal

pub returns : goal.returns
unfolding lib.Utf8.encode
returns c =
    let n = c.args.n in
    let counts = c.args.counts in
    let lines = counts.lines in
    let first : string_bytes c.push_count.new.line ≡ codes "make" ++ (codes " " ++ decimal n) =
    c.in_ok-push_count.ensures ∙ ap (λ s. s ++ (codes " " ++ decimal n)) c.in_ok-line.ensures.ok in
    seven (codes "make") (string_bytes c.push_count.new.line) (string_bytes c.push_count-2.new.line) (string_bytes c.push_count-3.new.line) (string_bytes c.push_count-4.new.line)
    (string_bytes c.push_count-5.new.line) (string_bytes c.push_count-6.new.line) (string_bytes c.push_count-7.new.line) (string_bytes c.push.new.self)
    (codes " " ++ decimal n) (codes " events " ++ decimal counts.events) (codes " jobs " ++ decimal counts.jobs) (codes " prints " ++ decimal lines.prints)
    (codes " requests " ++ decimal lines.requests) (codes " done " ++ decimal lines.done) (codes " threw " ++ decimal lines.threw)
    first c.in_ok-push_count-2.ensures c.in_ok-push_count-3.ensures c.in_ok-push_count-4.ensures c.in_ok-push_count-5.ensures c.in_ok-push_count-6.ensures c.in_ok-push_count-7.ensures c.in_ok-push.ensures.bytes
