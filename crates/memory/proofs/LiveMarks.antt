-- The live marks in bits: one window more, how many are set, and the lowest that is clear. By induction on the windows, a bit at a time.
use Prim.Native.Nat.{ℕ, zero, suc, ◌+◌, ◌-◌, ◌*◌, ◌/◌, ◌%◌, ◌^◌, ◌<◌, suc-le-suc}
use mathlib.Core.Path.{◌≡◌, refl, sym, ap, ap₂, ◌∙◌}
use mathlib.Core.Bool.{Bool, true, false}
use mathlib.Core.List.{List, [], ◌∷◌, reverse, reverse-cons}
use native.Mathlib.Omega.{arith}
use native.Mathlib.Numerals.{add-one}
use native.Mathlib.Nat.{pow-suc, mod-eq_of_lt, lt_of_lt_of_le, zero-lt-suc}
use lib.Pow.{pow_mono}
use lib.ListN.{length, drop, drop_of_length-le, length-drop}
use lib.Seq.{drop-cons}
use Rattle.std.specs.List.{fold}
use Rattle.std.proofs.Common.{◌≤◌}
use Rattle.std.proofs.lemmas.List.Sums.{fold-append}
use lib.Count.{ones, ones_step, count_trailing_zeros, under}
use Rattle.wire.specs.Wire.{pick}
use Rattle.memory.specs.Window.{no_window, window_at, live_count, lowest_free}
use Rattle.memory.specs.Marks.{live_marks, pushed, lowest_clear}
use Rattle.memory.specs.declared.window.Window.{Window}

-- a bit below a number
bit_low : (n : ℕ) (t : Bool) → (n * 2 + pick t 1 0) % 2 ≡ pick t 1 0
bit_low n true = omega arith
bit_low n false = omega arith

bit_high : (n : ℕ) (t : Bool) → (n * 2 + pick t 1 0) / 2 ≡ n
bit_high n true = omega arith
bit_high n false = omega arith

-- as many marks are set as windows are live
pub ones_live : (ws : List Window) → ones (live_marks ws) ≡ live_count ws
unfolding live_marks live_count ones
ones_live [] = refl
ones_live (w ∷ ws) =
    ones_step (live_marks ws * 2 + pick w.live 1 0)
    ∙ ap₂ (λ (a b : ℕ). a + ones b) (bit_low (live_marks ws) w.live) (bit_high (live_marks ws) w.live)
    ∙ ap (λ (n : ℕ). pick w.live 1 0 + n) (ones_live ws)

-- as many bits as windows
marks_below : (ws : List Window) → live_marks ws < 2 ^ length ws
unfolding live_marks
marks_below [] = omega arith
marks_below (w ∷ ws) = go w.live (marks_below ws)
  where
    go : (t : Bool) → live_marks ws < 2 ^ length ws → live_marks ws * 2 + pick t 1 0 < 2 ^ suc (length ws)
    go true h = omega (arith, pow-suc 2 (length ws))
    go false h = omega (arith, pow-suc 2 (length ws))

-- the complement of a number with a bit below it
not_low : (n p : ℕ) (t : Bool) → n < p → (p * 2 - 1 - (n * 2 + pick t 1 0)) % 2 ≡ pick t 0 1
not_low n p true h = omega arith
not_low n p false h = omega arith

not_high : (n p : ℕ) (t : Bool) → n < p → (p * 2 - 1 - (n * 2 + pick t 1 0)) / 2 ≡ p - 1 - n
not_high n p true h = omega arith
not_high n p false h = omega arith

-- the lowest mark that is clear is that of the lowest free slot: of any number of windows, and of sixteen
clear_first : (ws : List Window) → count_trailing_zeros (length ws) (2 ^ length ws - 1 - live_marks ws) ≡ lowest_free ws
unfolding live_marks lowest_free count_trailing_zeros
clear_first [] = refl
clear_first (w ∷ ws) =
    let n = live_marks ws in
    let p = 2 ^ length ws in
    let h = marks_below ws in
    ap (λ (q : ℕ). count_trailing_zeros (suc (length ws)) (q - 1 - (n * 2 + pick w.live 1 0))) (pow-suc 2 (length ws))
    ∙ ap₂ (λ (a b : ℕ). under a (count_trailing_zeros (length ws) b)) (not_low n p w.live h) (not_high n p w.live h)
    ∙ go w.live (clear_first ws)
  where
    go :
        (t : Bool) → count_trailing_zeros (length ws) (2 ^ length ws - 1 - live_marks ws) ≡ lowest_free ws →
        under (pick t 0 1) (count_trailing_zeros (length ws) (2 ^ length ws - 1 - live_marks ws)) ≡ pick t (1 + lowest_free ws) 0
    go true e = omega arith
    go false e = refl

pub clear_free : (ws : List Window) → length ws ≡ 16 → lowest_clear (live_marks ws) ≡ lowest_free ws
unfolding lowest_clear
clear_free ws e =
    ap (λ (k : ℕ). count_trailing_zeros k (2 ^ k - 1 - live_marks ws)) (sym e) ∙ clear_first ws

-- the marks of the windows from a slot on: none after the last, and one more before them
module _ (ws : List Window) (long : length ws ≡ 16) where
  pub marks_none : live_marks (drop 16 ws) ≡ 0
  unfolding live_marks
  marks_none = ap live_marks (drop_of_length-le ws {i = 16} (omega (arith, long)))

  one_more : (i : ℕ) → i < 16 → live_marks (drop i ws) ≡ live_marks (drop (i + 1) ws) * 2 + pick (window_at ws i).live 1 0
  unfolding live_marks
  one_more i h = rw (add-one, drop-cons ws i no_window (omega (arith, long)))

  room : (i : ℕ) → live_marks (drop (i + 1) ws) < 32768
  room i = lt_of_lt_of_le (marks_below (drop (i + 1) ws)) (pow_mono {j = 15} (simp length-drop (omega (arith, long))))

  pub marks_step : (i n : ℕ) → i < 16 → n ≡ live_marks (drop (i + 1) ws) → pushed n (window_at ws i).live ≡ live_marks (drop i ws)
  unfolding pushed
  marks_step i n h e =
      ap (λ (k : ℕ). k % 32768 * 2 + pick (window_at ws i).live 1 0) e
      ∙ ap (λ (k : ℕ). k * 2 + pick (window_at ws i).live 1 0) (mod-eq_of_lt (room i))
      ∙ sym (one_more i h)

-- the marks gathered from the last window on
pub marks_fold : (ws : List Window) → length ws ≤ 16 → fold (λ m w. pushed m w.live) 0 (reverse ws) ≡ live_marks ws
unfolding live_marks pushed
marks_fold [] h = refl
marks_fold (w ∷ ws) h =
    let e : fold (λ m v. pushed m v.live) 0 (reverse ws) ≡ live_marks ws = marks_fold ws (omega arith) in
    let room : live_marks ws < 32768 = lt_of_lt_of_le (marks_below ws) (pow_mono {j = 15} (omega arith)) in
    ap (fold (λ m v. pushed m v.live) 0) (reverse-cons w ws)
    ∙ fold-append (λ m v. pushed m v.live) 0 (reverse ws) (w ∷ [])
    ∙ ap (λ (k : ℕ). k % 32768 * 2 + pick w.live 1 0) e
    ∙ ap (λ (k : ℕ). k * 2 + pick w.live 1 0) (mod-eq_of_lt room)

-- windows that are all live
all_live : (ws : List Window) → ((i : ℕ) → i < length ws → (window_at ws i).live ≡ true) → (live_count ws ≡ length ws) × (lowest_free ws ≡ length ws)
unfolding live_count lowest_free
all_live [] all = (refl, refl)
all_live (w ∷ ws) all =
    let rest = all_live ws (λ i h. all (suc i) (suc-le-suc h)) in
    let live : w.live ≡ true = all zero (zero-lt-suc (length ws)) in
    (ap₂ (λ (t : Bool) (n : ℕ). pick t 1 0 + n) live rest.0 ∙ one_more, ap₂ (λ (t : Bool) (n : ℕ). pick t (1 + n) 0) live rest.1 ∙ one_more)
  where
    one_more : 1 + length ws ≡ suc (length ws)
    one_more = omega arith

-- sixteen live windows answer 16 and 16
pub sixteen_live : (ws : List Window) → length ws ≡ 16 → ((i : ℕ) → i < 16 → (window_at ws i).live ≡ true) → (live_count ws ≡ 16) × (lowest_free ws ≡ 16)
sixteen_live ws e all =
    let r = all_live ws (λ i h. all i (omega (arith, e))) in
    (r.0 ∙ e, r.1 ∙ e)
