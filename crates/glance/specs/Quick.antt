-- The words that the lister knows at a glance. Assumes nothing.
use Rattle.std.specs.Prelude.{ℕ, Option, Some, None, ◌-◌, ◌≡◌, true, cond, not, ◌&&◌, List, ltb}
use Rattle.fields.specs.Tag.{is_defining}
use Rattle.raw.specs.Plain.{plain}
use Rattle.raw.specs.Words.{pair_of}
use Rattle.measures.specs.Words.{integral_of, time_of, time_fixed, pedestal_of}
use Rattle.items.specs.declared.Item.{Item}
use Rattle.items.specs.declared.Item.TheVariants as I
use Rattle.scan.specs.declared.Scan.{Scan}
use Rattle.scan.specs.declared.Stage.{Stage}
use Rattle.scan.specs.declared.Stage.TheVariants as P
use Rattle.scan.specs.After.{onward}
use Rattle.questions.specs.Questions.{at_limit}
use Rattle.reader.specs.Judged as J
use Rattle.reader.specs.Reader.{judge_at}
use Rattle.written.specs.Page.{Page, put}
use Rattle.written.specs.Line.{Line, line_text}
use Rattle.lines.specs.Lines.{pair_line, integral_line, time_line, ped_line}
use Rattle.glance.specs.declared.Kind.{Kind}
use Rattle.glance.specs.declared.Kind.TheVariants as K

abbrev pub quick_item : Kind → ℕ → Item
quick_item K.Pair word = I.Pair (pair_of word)
quick_item K.Integral word = I.Integral (integral_of word)
quick_item K.Time word = I.Time (time_of word)
quick_item K.Pedestal word = I.Pedestal (pedestal_of word)

abbrev pub quick_line : Kind → ℕ → Line
quick_line K.Pair word = pair_line (pair_of word)
quick_line K.Integral word = integral_line (integral_of word)
quick_line K.Time word = time_line (time_of word)
quick_line K.Pedestal word = ped_line (pedestal_of word)

-- ---- which words are known

-- a word's kind and the scan behind it; none is another word
abbrev pub Quick : Type 0
Quick = Option (Kind × Scan)

-- the scan behind a word that changes the stage alone
abbrev pub behind_at : Scan → Stage → Scan
behind_at s p = record { place = onward s.place; slot = s.slot; left = s.left; stage = p }

-- behind an item of an event: a measure, its zero bits zero
abbrev pub measure_of : Scan → ℕ → Quick
measure_of t word =
    cond (is_defining 7 word) (Some (K.Integral, t))
    (cond (is_defining 10 word) (Some (K.Pedestal, t))
    (cond (is_defining 8 word && time_fixed word) (Some (K.Time, t))
    None))

-- in a raw item: a pair of two samples that is not the window's last
abbrev pub quick_by : Scan → Stage → ℕ → Quick
quick_by s P.Start word = None
quick_by s P.Head word = None
quick_by s P.Front word = None
quick_by s P.Opened word = None
quick_by s (P.Timed bits) word = None
quick_by s P.Items word = measure_of (behind_at s P.Items) word
quick_by s (P.Window n odd) word = cond (not (ltb 1 n && plain word)) None (Some (K.Pair, behind_at s (P.Window (n - 1) odd)))
quick_by s (P.Raw n some) word = cond (not (ltb 0 n && plain word)) None (Some (K.Pair, behind_at s (P.Raw (n - 1) true)))
quick_by s (P.Tail n) word = None
quick_by s (P.Scalers n) word = None

unfoldable pub quick_of : Scan → ℕ → Quick
quick_of s word = cond (at_limit s) None (quick_by s s.stage word)

-- a word that is taken is judged so
abbrev pub QuickSays : Scan → ℕ → Quick → Type 0
QuickSays s word (Some q) = J.Took (quick_item q.0 word) q.1 ≡ judge_at s word
QuickSays s word None = Unit

-- ---- what is put

-- behind a word that is known: the next place of the text, and the scan
abbrev pub Known : Type 0
Known = Option (ℕ × Scan)

-- the buffer, the next place and the scan
abbrev pub on_to : Page → Scan → List ℕ × Known
on_to p t = (p.0, Some (p.1, t))

-- a known word's line; no other word's
abbrev pub known_of : Page → Quick → ℕ → List ℕ × Known
known_of p (Some q) word = on_to (put p (line_text (quick_line q.0 word))) q.1
known_of p None word = (p.0, None)
