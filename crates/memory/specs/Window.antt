-- Windows: registered and dropped, counted, found by an STag, and the place of a tagged offset.
use Rattle.std.specs.Prelude.{ℕ, ◌+◌, ◌-◌, ◌/◌, ◌%◌, Bool, true, false, List, [], ◌∷◌, get_or, set, ltb, leb, eqb, Err, Ok, Result}
use Rattle.wire.specs.Wire.{pick, both}
use Rattle.memory.specs.Part.{in_part}
use Rattle.memory.specs.declared.part.Part.{Part}
use Rattle.memory.specs.declared.window.Window.{Window}
use Rattle.memory.specs.declared.window.SpanFault.{SpanFault}
use Rattle.memory.specs.declared.window.SpanFault.TheVariants.{Outside, Wrap}
use Rattle.memory.specs.declared.window.StagFault.{StagFault}
use Rattle.memory.specs.declared.window.StagFault.TheVariants.{Foreign, Missing}
use Rattle.wire.specs.declared.refusal.LocalRefusal.{LocalRefusal}
use Rattle.wire.specs.declared.refusal.LocalRefusal.TheVariants.{BadPlace, KeyAgain, OutOfRange, WindowLive, WindowNotLive}
use Rattle.std.specs.Prelude.{⊤}

-- a window that never was live
abbrev pub no_window : Window
no_window = record { live = false; key = 0; rights = 0; place = 0; len = 0; base = 0 }

abbrev pub window_at : List Window → ℕ → Window
window_at windows slot = get_or windows slot no_window

-- "a key (1 to 255)", "rights: 1 write, 2 read, 3 both"
unfoldable pub in_range : ℕ → ℕ → Bool
in_range key rights = both (both (leb 1 key) (leb key 255)) (both (leb 1 rights) (leb rights 3))

-- a refusal: the window is as it was
abbrev pub keeping : Window → LocalRefusal → (Result ⊤ LocalRefusal × Window)
keeping w refusal = (Err refusal, w)

-- a refusal: nothing changes
abbrev pub refusing : List Window → LocalRefusal → (Result ⊤ LocalRefusal × List Window)
refusing windows refusal = (Err refusal, windows)

-- what was done with the window of a slot, put in its entry
abbrev pub entering : List Window → ℕ → (Result ⊤ LocalRefusal × Window) → (Result ⊤ LocalRefusal × List Window)
entering windows slot r = (r.0, set windows slot r.1)

-- "a length from 1, a place in its domain's part"; "Base + length is at most 2^64 − 1"
unfoldable pub window_fits : Part → ℕ → ℕ → ℕ → Bool
window_fits part place base len = both (in_part part place len) (leb (base + len) 18446744073709551615)

-- registering in a window: 1 a key or right out of its range; 6 window live; 8 key equals the last key this window had; 9 place, length or base + length
unfoldable pub registered_in : Window → Part → ℕ → ℕ → ℕ → ℕ → ℕ → (Result ⊤ LocalRefusal × Window)
registered_in w part key base len place rights =
    pick (in_range key rights)
    (pick w.live (keeping w WindowLive)
    (pick (eqb key w.key) (keeping w KeyAgain)
    (pick (window_fits part place base len)
    (Ok tt, record { live = true; key = key; rights = rights; place = place; len = len; base = base })
    (keeping w BadPlace))))
    (keeping w OutOfRange)

-- registering in a slot of the sixteen: 1 a number out of its range
unfoldable pub registered : List Window → Part → ℕ → ℕ → ℕ → ℕ → ℕ → ℕ → (Result ⊤ LocalRefusal × List Window)
registered windows part slot key base len place rights =
    pick (leb slot 15)
    (entering windows slot (registered_in (window_at windows slot) part key base len place rights))
    (refusing windows OutOfRange)

-- a dead window keeps its last key
abbrev pub dead_of : Window → Window
dead_of w = record { live = false; key = w.key; rights = 0; place = 0; len = 0; base = 0 }

-- dropping a window: 7 window not live
unfoldable pub dropped_in : Window → (Result ⊤ LocalRefusal × Window)
dropped_in w = pick w.live (Ok tt, dead_of w) (keeping w WindowNotLive)

-- dropping the window of a slot: 1 a number out of its range
unfoldable pub dropped : List Window → ℕ → (Result ⊤ LocalRefusal × List Window)
dropped windows slot = pick (leb slot 15) (entering windows slot (dropped_in (window_at windows slot))) (refusing windows OutOfRange)

-- "how many windows of a domain are live"
unfoldable pub live_count : List Window → ℕ
live_count [] = 0
live_count (w ∷ ws) = pick w.live 1 0 + live_count ws

-- "which of its sixteen slots is the lowest free (16 if none)"
unfoldable pub lowest_free : List Window → ℕ
lowest_free [] = 0
lowest_free (w ∷ ws) = pick w.live (1 + lowest_free ws) 0

-- a window is live and has the key
unfoldable pub named : Window → ℕ → Bool
named w key = both w.live (eqb key w.key)

-- "Its STag is window number × 256 + key"; "Domain d owns 16d to 16d+15": the slot of the window that an STag names
abbrev pub slot_named : ℕ → ℕ
slot_named stag = stag / 256 % 16

-- the window in that slot, as an STag finds it. 24 asks whose the number is, live or not; then 25: "window number over 63, dead, or other key"
unfoldable pub found_in : Window → ℕ → ℕ → Result ℕ StagFault
found_in w domain stag =
    pick (leb (stag / 256) 63)
    (pick (eqb (stag / 256 / 16) domain) (pick (named w (stag % 256)) (Ok (slot_named stag)) (Err Missing)) (Err Foreign))
    (Err Missing)

-- 26: "TO + payload above 2^64"
unfoldable pub wraps : ℕ → ℕ → Bool
wraps to len = ltb 18446744073709551616 (to + len)

-- 27: "not inside the window: TO below base, or TO + payload above base + length"
abbrev pub within : Window → ℕ → ℕ → Bool
within w to len = both (leb w.base to) (leb (to + len) (w.base + w.len))

-- the place in the store of the len bytes from TO: place + (TO − base)
unfoldable pub spanned : Window → ℕ → ℕ → Result ℕ SpanFault
spanned w to len =
    pick (wraps to len) (Err Wrap)
    (pick (within w to len) (Ok (w.place + (to - w.base))) (Err Outside))
