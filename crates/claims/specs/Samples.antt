-- The samples that a block carries: those that are read back, by `next` and `part`, and those that were sent. Each stands beside the record that heads
-- it, a window or a pulse raw. Assumes nothing.
use Rattle.std.specs.Prelude.{ℕ, zero, suc, ◌+◌, Bool, cond, ◌&&◌, List, [], ◌∷◌, ◌++◌, eqb, length, get_or}
use Rattle.ground.specs.Tests.{one_of}
use Rattle.settings.specs.declared.Settings.{Settings}
use Rattle.finder.specs.declared.Pulse.{Pulse}
use Rattle.search.specs.Search.{any_over}
use Rattle.items.specs.declared.Item.{Item}
use Rattle.items.specs.declared.Item.TheVariants as I
use Rattle.records.specs.declared.answer.Record.{Record}
use Rattle.records.specs.declared.answer.Record.TheVariants as R
use Rattle.rawitems.specs.Pairs.{part_of}
use Rattle.rawsamples.specs.RawSamples.{samples_of}
use Rattle.scan.specs.declared.Scan.{Scan}
use Rattle.pulse.specs.Pulse.{set_of}
use Rattle.modes.specs.Channel.{common_of, pulses_of}
use Rattle.rows.specs.Rows.{row}
use Rattle.state.specs.declared.State.{State}
use Rattle.claims.specs.Reads.{Reads, at_end, took}
use Rattle.claims.specs.Run.{Run, opened, begun, posted, counted, closed, not_closed, not_opened, not_finished}

-- ---- read back

-- a window or a pulse raw, with the samples of what `part` gives for it
abbrev pub record_samples : List ℕ → Record → List (Item × List ℕ)
record_samples words (R.Block r) = []
record_samples words (R.Parameters r) = []
record_samples words (R.Event r) = []
record_samples words (R.Time27 r) = []
record_samples words (R.Time48 r high) = []
record_samples words (R.TimeHigh r) = []
record_samples words (R.Window r p) = (I.Window r, samples_of (part_of words p)) ∷ []
record_samples words (R.Raw r p) = (I.Raw r, samples_of (part_of words p)) ∷ []
record_samples words (R.Pair r) = []
record_samples words (R.Integral r) = []
record_samples words (R.Time r) = []
record_samples words (R.Pedestal r) = []
record_samples words (R.Trailer r) = []
record_samples words (R.Fillers slot n) = []
record_samples words (R.Empty r) = []
record_samples words (R.Scalers p) = []
record_samples words (R.Scaler r) = []

-- of all records that `next` answers, in order
unfoldable pub samples_read : {words : List ℕ} {s : Scan} {xs : List Item} {n : ℕ} → Reads words s xs n → List (Item × List ℕ)
samples_read (at_end n e) = []
samples_read {words} (took r items e m p q more) = record_samples words r ++ samples_read more

-- ---- sent

-- mode 2: each pulse's data set
unfoldable pub sets_sent : ℕ → List ℕ → ℕ → List Pulse → List (Item × List ℕ)
sets_sent c w i [] = []
sets_sent c w i (p ∷ ps) = (I.Raw (record { channel = c; pulse = i; tc = p.tc }), set_of w p) ∷ sets_sent c w (i + 1) ps

-- "mode 1, if any sample is over, type 4. Mode 2, type 6. .. Mode 8, the window as in mode 1"
unfoldable pub channel_sent : Settings → ℕ → List ℕ → List (Item × List ℕ)
channel_sent s c w =
    let t = get_or s.thresholds c 0 in
    cond (one_of s.mode (1 ∷ 8 ∷ []) && any_over w t) ((I.Window (record { channel = c; width = length w }), w) ∷ []) []
    ++ cond (eqb s.mode 2) (sets_sent c w 0 (pulses_of (common_of s) t w)) []

-- the posted channels' rows, "channels rising", from channel c on
unfoldable pub rows_sent : Settings → List ℕ → ℕ → List Bool → List (Item × List ℕ)
rows_sent s store c [] = []
rows_sent s store c (mark ∷ more) = cond mark (channel_sent s c (row s.nw c store)) [] ++ rows_sent s store (c + 1) more

-- the same by the windows posted, none or one for a channel: n channels from c on
abbrev pub window_sent : Settings → ℕ → List (List ℕ) → List (Item × List ℕ)
window_sent s c [] = []
window_sent s c (w ∷ more) = channel_sent s c w

unfoldable pub windows_sent : Settings → (ℕ → List (List ℕ)) → ℕ → ℕ → List (Item × List ℕ)
windows_sent s windows c zero = []
windows_sent s windows c (suc n) = window_sent s c (windows c) ++ windows_sent s windows (c + 1) n

-- by a run of calls: what its closes send, each of the store then lent
unfoldable pub samples_sent : {s : State} {words : List ℕ} {xs : List Item} → Run s words xs → List (Item × List ℕ)
samples_sent (opened s words number events r words' t c h e) = []
samples_sent (begun run number time r h) = samples_sent run
samples_sent (posted run store c w r store' h) = samples_sent run
samples_sent (counted run k r h) = samples_sent run
samples_sent (closed {s} run store asked r words' h e) = samples_sent run ++ rows_sent s.settings store 0 s.posted
samples_sent (not_closed run store asked r words' h e) = samples_sent run
samples_sent (not_opened run number events r words' h e) = samples_sent run
samples_sent (not_finished run r words' h e) = samples_sent run
