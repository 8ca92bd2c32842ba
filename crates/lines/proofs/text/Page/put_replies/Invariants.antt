-- What the loops of `lines::text::Page::put_replies` keep.
use Prim.Native.Nat.{◌+◌, ◌*◌, ◌≤◌}
use lib.ListN.{drop}
use Rattle.trace.specs.Limits.{reply_size}
use Rattle.lines.specs.Lines.{reply_lines, reply_room}
use Rattle.lines.proofs.LineLaws.{Left}
use Rattle.lines.proofs.text.Page.put_replies.Given as goal

abbrev pub invariant-loop-answer : goal.invariant-loop-answer
invariant-loop-answer l =
    (l.self.size ≤ l.initial.self.size + reply_room * l.answer-index) ×
    Left l.initial.self (reply_lines l.replies) l.self (reply_lines (drop (reply_size * l.answer-index) l.replies))
