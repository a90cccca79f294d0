-- What private functions of an event say; no public contract cites it. Assumes nothing.
use Rattle.std.specs.Prelude.{ℕ, ◌+◌, Bool, List, length}
use Rattle.settings.specs.declared.Settings.{Settings}
use Rattle.event.specs.Event.{channels_items}

-- the words of an event, without the words: header, time words, channels
unfoldable pub event_length : Settings → List Bool → List ℕ → ℕ
event_length s posted store = 1 + s.times + length (channels_items s store 0 posted)
