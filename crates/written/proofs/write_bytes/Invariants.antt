-- `written::write_bytes` meets its contract: the page with the bytes that are left is the page asked for.
use Rattle.std.proofs.Common.{◌+◌, ◌≡◌, length, drop}
use Rattle.written.specs.Page.{put}
use Rattle.written.proofs.write_bytes.Given as goal

abbrev pub invariant-loop-b : goal.invariant-loop-b
invariant-loop-b l =
    (length l.text ≡ length l.initial.text) × (l.end ≡ l.at + l.b-index) × (put (l.initial.text, l.at) l.s ≡ put (l.text, l.end) (drop l.b-index l.s))
