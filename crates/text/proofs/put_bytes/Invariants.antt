-- `text::put_bytes` meets its contract: the page with the bytes that are left is the page asked for.
use Rattle.std.proofs.Common.{◌≡◌, length, drop}
use Rattle.written.specs.Page.{put}
use Rattle.text.proofs.put_bytes.Given as goal

abbrev pub invariant-loop-b : goal.invariant-loop-b
invariant-loop-b l = (length l.text ≡ length l.initial.text) × (put (l.initial.text, l.at) l.s ≡ put (l.text, l.end) (drop l.b-index l.s))
