-- `channel::channel_short` meets its contract: no channel is longer than the longest in its mode.
use Rattle.std.proofs.Common.{◌≡◌, sym, ◌∙◌, ◌+◌, arith, ltb-false, le-ltb, le-leb, length}
use Rattle.finder.specs.FindLaws.{searched}
use Rattle.modes.specs.Channel.{mode_most}
use Rattle.modes.specs.Inner.{channel_length}
use Rattle.modes.specs.InnerLaws.{length_channel}
use Rattle.modes.specs.BoundLaws.{channel_within}
use Rattle.channel.proofs.channel_short.Goals as goal

pub returns-else-room_short : goal.returns-else-room_short
returns-else-room_short c =
    let a = c.args in
    let most : c.most_words.result ≡ mode_most a.common.mode (length a.row.now) = rw (le-leb _ _ (searched _ _ _ c.requires).short) at c.most_words.ensures in
    let wide = ltb-false a.room (a.at + c.most_words.result) (sym c.room_short.ensures ∙ c.if-room_short.false) in
    c.if-room_short.false ∙ sym (le-ltb a.room (a.at + channel_length a.common a.threshold a.row.now) (omega (arith, wide, most, channel_within a.common a.threshold a.row.now (searched _ _ _ c.requires))))

pub returns-then-room_short : goal.returns-then-room_short
returns-then-room_short c =
    let a = c.args in
    let size = length_channel a.common a.threshold 0 a.row.now (searched _ _ _ c.requires).some in
    rw (← size, ← (rw c.requires at c.channel_length.ensures)) c.room_short-then-room_short.ensures
