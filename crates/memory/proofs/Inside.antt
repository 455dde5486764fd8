-- Every live window lies in its domain's part, and registering and dropping keep it so; what is inside a window lies in it. The
-- same of the buffers that wait, posted and taken. By cases on the tests of the definitions.
use Prim.Native.Nat.{ℕ, ◌+◌, ◌-◌, ◌/◌, ◌%◌, ◌≤◌, ◌<◌}
use mathlib.Core.Path.{◌≡◌, refl, sym, subst, ◌∙◌}
use mathlib.Core.Bool.{Bool, true, false}
use mathlib.Core.List.{List, [], ◌∷◌, ◌++◌}
use native.Mathlib.Omega.{arith}
use native.Mathlib.Decide.{dec_lt, ℕ_discrete as dec_eq}
use lib.ListN.{length, get_or, set, drop, length-drop, get_or-append}
use lib.Seq.{get_or-set_same, get_or-set_other, set_out, get_or-drop}
use lib.Dec.{leb, ltb, eqb}
use borrow.Author.Tests.{leb-true, ltb-true, eqb-false}
use Rattle.wire.specs.Wire.{pick, both}
use Rattle.memory.specs.Part.{in_part}
use Rattle.memory.specs.Window.{no_window, window_at, in_range, window_fits, keeping, refusing, entering, registered_in, registered, dead_of, dropped_in, dropped, named, slot_named, found_in, wraps, within, spanned}
use Rattle.memory.specs.Buffer.{no_buffer, appended, posted, first_of, popped_of}
use Rattle.memory.specs.declared.part.Part.{Part}
use Rattle.memory.specs.declared.buffer.Buffer.{Buffer}
use Rattle.memory.specs.declared.buffer.Buffers.{Buffers}
use Rattle.memory.specs.declared.window.Window.{Window}
use Rattle.memory.proofs.Laws.{both_left, both_right, part_bound}
use Rattle.std.specs.Prelude.{Err, None, Ok, Some}
use Rattle.memory.specs.declared.window.SpanFault.TheVariants.{Outside, Wrap}
use Rattle.memory.specs.declared.window.StagFault.TheVariants.{Foreign, Missing}
use Rattle.wire.specs.declared.refusal.LocalRefusal.TheVariants.{BadPlace, BuffersFull, KeyAgain, OutOfRange, WindowLive, WindowNotLive}
use Rattle.std.specs.Prelude.{Result, ⊤}
use Rattle.wire.specs.declared.refusal.LocalRefusal.{LocalRefusal}

-- the len bytes from a place lie in a part
abbrev pub Lies : Part → ℕ → ℕ → Type 0
Lies p at len = (p.start ≤ at) × (at + len ≤ p.end)

-- each live window lies in the part
abbrev pub WindowIn : Part → Window → Type 0
WindowIn p w = w.live ≡ true → Lies p w.place w.len

abbrev pub WindowsIn : Part → List Window → Type 0
WindowsIn p ws = (i : ℕ) → WindowIn p (window_at ws i)

part_lies : (p : Part) (start len : ℕ) → in_part p start len ≡ true → Lies p start len
unfolding in_part
part_lies p start len e =
    let rest = both_right (leb 1 len) (both (leb p.start start) (leb (start + len) p.end)) e in
    (leb-true _ _ (both_left (leb p.start start) (leb (start + len) p.end) rest), part_bound p start len e)

-- one entry changed
set_in : (p : Part) (ws : List Window) (slot : ℕ) (w : Window) → WindowsIn p ws → WindowIn p w → WindowsIn p (set ws slot w)
set_in p ws slot w all one i = go (dec_lt slot (length ws)) (dec_eq i slot)
  where
    go : Dec (slot < length ws) → Dec (i ≡ slot) → WindowIn p (window_at (set ws slot w) i)
    go (no h) d = subst (λ (l : List Window). WindowIn p (window_at l i)) (sym (set_out ws slot w (omega arith))) (all i)
    go (yes h) (no e) = subst (WindowIn p) (sym (get_or-set_other ws slot i w no_window e)) (all i)
    go (yes h) (yes e) =
        subst (λ (n : ℕ). WindowIn p (window_at (set ws slot w) n)) (sym e)
        (subst (WindowIn p) (sym (get_or-set_same ws slot w no_window h)) one)

fits-lies : (p : Part) (place base len : ℕ) → window_fits p place base len ≡ true → Lies p place len
unfolding window_fits
fits-lies p place base len e = part_lies p place len (both_left (in_part p place len) (leb (base + len) 18446744073709551615) e)

abbrev live_of : ℕ → ℕ → ℕ → ℕ → ℕ → Window
live_of key base len place rights = record { live = true; key = key; rights = rights; place = place; len = len; base = base }

-- one window registered or dropped; a refusal leaves it as it was
pub registered-one : (p : Part) (w : Window) (key base len place rights : ℕ) → WindowIn p w → WindowIn p (registered_in w p key base len place rights).1
unfolding registered_in
registered-one p w key base len place rights one =
    go (in_range key rights) w.live (eqb key w.key) (window_fits p place base len) refl
  where
    go :
        (a b c d : Bool) → window_fits p place base len ≡ d →
        WindowIn p (pick a (pick b (keeping w WindowLive) (pick c (keeping w KeyAgain) (pick d (Ok tt, live_of key base len place rights) (keeping w BadPlace)))) (keeping w OutOfRange)).1
    go false b c d e = one
    go true true c d e = one
    go true false true d e = one
    go true false false false e = one
    go true false false true e = λ l. fits-lies p place base len e

pub dropped-one : (p : Part) (w : Window) → WindowIn p w → WindowIn p (dropped_in w).1
unfolding dropped_in
dropped-one p w one = go w.live
  where
    go : (a : Bool) → WindowIn p (pick {A = (Result ⊤ LocalRefusal × Window)} a (Ok tt, dead_of w) (keeping w WindowNotLive)).1
    go false = one
    go true = λ l. let no : ◌≡◌ {A = ℕ} 0 1 = cc in absurd (omega arith)

-- and put in its slot
entered_in : (p : Part) (ws : List Window) (slot : ℕ) (r : Result ⊤ LocalRefusal × Window) (t : Bool) → WindowsIn p ws → WindowIn p r.1 → WindowsIn p (pick t (entering ws slot r) (refusing ws OutOfRange)).1
entered_in p ws slot r true all one = set_in p ws slot r.1 all one
entered_in p ws slot r false all one = all

pub registered_in_lem : (p : Part) (ws : List Window) (slot key base len place rights : ℕ) → WindowsIn p ws → WindowsIn p (registered ws p slot key base len place rights).1
unfolding registered
registered_in_lem p ws slot key base len place rights all =
    entered_in p ws slot (registered_in (window_at ws slot) p key base len place rights) (leb slot 15) all
    (registered-one p (window_at ws slot) key base len place rights (all slot))

pub dropped_in_lem : (p : Part) (ws : List Window) (slot : ℕ) → WindowsIn p ws → WindowsIn p (dropped ws slot).1
unfolding dropped
dropped_in_lem p ws slot all =
    entered_in p ws slot (dropped_in (window_at ws slot)) (leb slot 15) all (dropped-one p (window_at ws slot) (all slot))

-- what is inside a window
pub span_in_lem : (w : Window) (to len at : ℕ) → spanned w to len ≡ Ok at → (w.place ≤ at) × (at + len ≤ w.place + w.len)
unfolding spanned
span_in_lem w to len at e = go (wraps to len) (within w to len) refl e
  where
    go :
        (a b : Bool) → within w to len ≡ b →
        pick a (Err Wrap) (pick b (Ok (w.place + (to - w.base))) (Err Outside)) ≡ Ok at → (w.place ≤ at) × (at + len ≤ w.place + w.len)
    go true b q e = let no : ◌≡◌ {A = ℕ} 0 1 = cc in omega arith
    go false false q e = let no : ◌≡◌ {A = ℕ} 0 1 = cc in omega arith
    go false true q e =
        let same : w.place + (to - w.base) ≡ at = cc in
        let low : w.base ≤ to = leb-true _ _ (both_left (leb w.base to) (leb (to + len) (w.base + w.len)) q) in
        let high : to + len ≤ w.base + w.len = leb-true _ _ (both_right (leb w.base to) (leb (to + len) (w.base + w.len)) q) in
        omega arith

-- a window that was found is live
named_live : (w : Window) (key : ℕ) → named w key ≡ true → w.live ≡ true
unfolding named
named_live w key e = both_left w.live (eqb key w.key) e

pub found-live : (w : Window) (domain stag slot : ℕ) → found_in w domain stag ≡ Ok slot → w.live ≡ true
unfolding found_in
found-live w domain stag slot e = go (leb (stag / 256) 63) (eqb (stag / 256 / 16) domain) (named w (stag % 256)) refl e
  where
    go :
        (a b c : Bool) → named w (stag % 256) ≡ c →
        pick a (pick b (pick c (Ok (slot_named stag)) (Err Missing)) (Err Foreign)) (Err Missing) ≡ Ok slot → w.live ≡ true
    go false b c q e = cc
    go true false c q e = cc
    go true true false q e = cc
    go true true true q e = named_live w (stag % 256) q

-- each buffer that waits lies in the part
abbrev pub BufferIn : Part → Buffer → Type 0
BufferIn p b = Lies p b.start b.len

abbrev pub BuffersIn : Part → Buffers → Type 0
BuffersIn p bs = (i : ℕ) → i < bs.count → BufferIn p (get_or bs.entries i no_buffer)

pub posted_in : (p : Part) (bs : Buffers) (start len : ℕ) → length bs.entries ≡ 8 → BuffersIn p bs → BuffersIn p (posted bs p start len).1
unfolding posted
posted_in p bs start len long all = go (in_part p start len) refl (ltb bs.count 8) refl
  where
    added : in_part p start len ≡ true → bs.count < 8 → BuffersIn p (appended bs (record { start = start; len = len }))
    added e h i l = one (dec_eq i bs.count)
      where
        one : Dec (i ≡ bs.count) → BufferIn p (get_or (set bs.entries bs.count (record { start = start; len = len })) i no_buffer)
        one (yes q) =
            subst (λ (n : ℕ). BufferIn p (get_or (set bs.entries bs.count (record { start = start; len = len })) n no_buffer)) (sym q)
            (subst (BufferIn p) (sym (get_or-set_same bs.entries bs.count (record { start = start; len = len }) no_buffer (omega arith))) (part_lies p start len e))
        one (no q) =
            subst (BufferIn p) (sym (get_or-set_other bs.entries bs.count i (record { start = start; len = len }) no_buffer q)) (all i (omega arith))

    go :
        (a : Bool) → in_part p start len ≡ a → (b : Bool) → ltb bs.count 8 ≡ b →
        BuffersIn p
        (pick {A = (Result ⊤ LocalRefusal × Buffers)} a
        (pick b (Ok tt, appended bs (record { start = start; len = len })) (Err BuffersFull, bs))
        (Err BadPlace, bs)
        ).1
    go false e b f = all
    go true e false f = all
    go true e true f = added e (ltb-true bs.count 8 f)

pub first_in : (p : Part) (bs : Buffers) (b : Buffer) → BuffersIn p bs → first_of bs ≡ Some b → BufferIn p b
unfolding first_of
first_in p bs b all e = go (eqb bs.count 0) refl e
  where
    go : (t : Bool) → eqb bs.count 0 ≡ t → pick t None (Some (get_or bs.entries 0 no_buffer)) ≡ Some b → BufferIn p b
    go true q e = let no : ◌≡◌ {A = ℕ} 0 1 = cc in omega arith
    go false q e =
        let same : get_or bs.entries 0 no_buffer ≡ b = cc in
        subst (BufferIn p) same (all 0 (omega (arith, eqb-false bs.count 0 q)))

pub popped_in : (p : Part) (bs : Buffers) → bs.count ≤ length bs.entries → BuffersIn p bs → BuffersIn p (popped_of bs)
unfolding popped_of
popped_in p bs fits all = go (eqb bs.count 0)
  where
    moved : (i : ℕ) → i < bs.count - 1 → get_or (drop 1 bs.entries ++ (no_buffer ∷ [])) i no_buffer ≡ get_or bs.entries (1 + i) no_buffer
    moved i l =
        get_or-append (drop 1 bs.entries) (no_buffer ∷ []) no_buffer i (simp length-drop (omega arith))
        ∙ get_or-drop 1 bs.entries i no_buffer

    go : (t : Bool) → BuffersIn p (pick t bs (record { count = bs.count - 1; entries = drop 1 bs.entries ++ (no_buffer ∷ []) }))
    go true = all
    go false = λ i l. subst (BufferIn p) (sym (moved i l)) (all (1 + i) (omega arith))
