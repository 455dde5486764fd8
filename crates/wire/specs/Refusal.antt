-- The local refusals by number: the paper's table, and RFC 6581's two.
use Rattle.std.specs.Prelude.{ℕ}
use Rattle.wire.specs.declared.refusal.LocalRefusal.{LocalRefusal}
use Rattle.wire.specs.declared.refusal.LocalRefusal.TheVariants.{OutOfRange, OtherLength, NotOpen, AlreadyOpen, StreamEnded, WindowLive, WindowNotLive, KeyAgain, BadPlace, BuffersFull, NoReadWaits, OverLimit, NoRoom, BadStartup, Markers, HoldsBytes, SharedByte, IrdTooSmall, NoKind}

unfoldable pub refusal_number : LocalRefusal → ℕ
refusal_number OutOfRange = 1
refusal_number OtherLength = 2
refusal_number NotOpen = 3
refusal_number AlreadyOpen = 4
refusal_number StreamEnded = 5
refusal_number WindowLive = 6
refusal_number WindowNotLive = 7
refusal_number KeyAgain = 8
refusal_number BadPlace = 9
refusal_number BuffersFull = 10
refusal_number NoReadWaits = 11
refusal_number OverLimit = 12
refusal_number NoRoom = 13
refusal_number BadStartup = 14
refusal_number Markers = 15
refusal_number HoldsBytes = 16
refusal_number SharedByte = 19
refusal_number IrdTooSmall = 40
refusal_number NoKind = 41
