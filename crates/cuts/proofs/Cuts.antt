-- The law of cuts, of any receive that keeps to the laws of `Machine`: what a stream makes of its bytes does not turn on how they are cut.
-- Assumes nothing.
use Prim.Native.Nat.{ℕ, zero, suc, ◌+◌, ◌-◌, ◌≤◌, ◌<◌}
use mathlib.Core.Path.{◌≡◌, refl, sym, ap, subst, ◌∙◌}
use mathlib.Core.Bool.{Bool, true, false}
use mathlib.Core.List.{List, [], ◌∷◌, ◌++◌, append_assoc, append-nil}
use native.Mathlib.Omega.{arith}
use lib.ListN.{length, take, drop, length-append, length-drop, take-append-drop}
use lib.Seq.{take-append-le, drop-append-le, drop-append-add, drop-length}
use lib.Dec.{leb}
use borrow.Author.Tests.{leb-true, leb-false}
use Rattle.cuts.specs.Cuts.{Step, Holds, Machine, Offered, offer_of, offer, events_of, left_of, Outcome, still, after, drain_in, drain, drain_all, joined, singles, Called, called}
use Rattle.cuts.specs.Cuts.Step.{waits, took, ends, refuses}
use Rattle.cuts.specs.Cuts.Answer.{kept, done, ended, refused}

-- events in front of others
after-after : {S E : Type 0} (es fs : List E) (r : Outcome S E) → after es (after fs r) ≡ after (es ++ fs) r
after-after es fs r i = record { events = sym (append_assoc es fs r.events) i; state = r.state; held = r.held }

module _ {S E : Type 0} (m : Machine S E) where
  -- a stream in this state may hold these bytes: they complete nothing
  abbrev pub Holding : S → List ℕ → Type 0
  Holding s held = Holds held (m.receive s held)

  -- ---- laws of receive

  -- what is taken is taken whatever comes after all of the bytes
  took_more : (s : S) (p : List ℕ) (n : ℕ) (e : E) (t : S) → m.receive s p ≡ took n e t → (q : List ℕ) → m.receive s (p ++ q) ≡ took n e t
  took_more s p n e t r q =
      ap (m.receive s) (ap (λ (l : List ℕ). l ++ q) (sym (take-append-drop n p)) ∙ append_assoc (take n p) (drop n p) q)
      ∙ m.own s p n e t r (drop n p ++ q)

  -- held bytes are fewer than those that the FPDU which they begin takes
  pub held_fewer : (s : S) (h p : List ℕ) (n : ℕ) (e : E) (t : S) → Holding s h → m.receive s (h ++ p) ≡ took n e t → length h < n
  held_fewer s h p n e t holding r = go (leb n (length h)) refl
    where
      whole : n ≤ length h → m.receive s h ≡ took n e t
      whole l =
          ap (m.receive s) (sym (take-append-drop n h) ∙ ap (λ (x : List ℕ). x ++ drop n h) (sym (take-append-le n h p l)))
          ∙ m.own s (h ++ p) n e t r (drop n h)

      go : (b : Bool) → leb n (length h) ≡ b → length h < n
      go false q = leb-false n (length h) q
      go true q = absurd (subst (Holds h) (whole (leb-true n (length h) q)) holding)

  -- ---- the pending bytes, received until they wait

  -- by what receive makes of them, and then the rest
  abbrev ran_by : (S → List ℕ → Outcome S E) → S → List ℕ → Step S E → Outcome S E
  ran_by rest s p waits = still s p
  ran_by rest s p (took n e t) = after (e ∷ []) (rest t (drop n p))
  ran_by rest s p (ends e t) = record { events = e ∷ []; state = t; held = [] }
  ran_by rest s p (refuses k) = still s []

  abbrev run_in : ℕ → S → List ℕ → Outcome S E
  run_in zero s p = still s p
  run_in (suc k) s p = ran_by (λ (t : S) (q : List ℕ). run_in k t q) s p (m.receive s p)

  -- one step of it, as receive is known
  stepped : (k : ℕ) (s : S) (p : List ℕ) (x : Step S E) → m.receive s p ≡ x → run_in (suc k) s p ≡ ran_by (λ (t : S) (q : List ℕ). run_in k t q) s p x
  stepped k s p x e = ap (ran_by (λ (t : S) (q : List ℕ). run_in k t q) s p) e

  -- what is left after some were taken is shorter
  shorter : (s : S) (p : List ℕ) (n : ℕ) (e : E) (t : S) → m.receive s p ≡ took n e t → length (drop n p) < length p
  shorter s p n e t r = let b = m.some s p n e t r in omega (arith, length-drop n p, b.0, b.1)

  -- of no bytes nothing comes
  run_none : (k : ℕ) (s : S) → run_in k s [] ≡ still s []
  run_none zero s = refl
  run_none (suc k) s = go (m.receive s []) (m.none s)
    where
      go : (x : Step S E) → Holds [] x → ran_by (λ (t : S) (q : List ℕ). run_in k t q) s [] x ≡ still s []
      go waits h = refl
      go (took n e t) h = absurd h
      go (ends e t) h = absurd h
      go (refuses j) h = refl

  nil_of : (p : List ℕ) → length p ≤ 0 → p ≡ []
  nil_of [] h = refl
  nil_of (b ∷ p) h = absurd (omega arith)

  -- as many steps as there are bytes are enough
  abbrev Enough : ℕ → Type 0
  Enough k = (j : ℕ) (s : S) (p : List ℕ) → length p ≤ k → length p ≤ j → run_in k s p ≡ run_in j s p

  run-enough : (k : ℕ) → Enough k
  run-enough zero j s p h g = ap (run_in 0 s) (nil_of p h) ∙ sym (run_none j s) ∙ ap (run_in j s) (sym (nil_of p h))
  run-enough (suc k) zero s p h g = ap (run_in (suc k) s) (nil_of p g) ∙ run_none (suc k) s ∙ ap (still s) (sym (nil_of p g))
  run-enough (suc k) (suc j) s p h g = go (run-enough k) (m.receive s p) refl
    where
      go : Enough k → (x : Step S E) → m.receive s p ≡ x → ran_by (λ (t : S) (q : List ℕ). run_in k t q) s p x ≡ ran_by (λ (t : S) (q : List ℕ). run_in j t q) s p x
      go next waits r = refl
      go next (took n e t) r = let l = shorter s p n e t r in ap (after (e ∷ [])) (next j t (drop n p) (omega (arith, l)) (omega (arith, l)))
      go next (ends e t) r = refl
      go next (refuses i) r = refl

  -- what is held at the end is no more than there was
  run-held : (k : ℕ) (s : S) (p : List ℕ) → length (run_in k s p).held ≤ length p
  run-held zero s p = omega arith
  run-held (suc k) s p = go (run-held k) (m.receive s p) refl
    where
      go : ((t : S) (q : List ℕ) → length (run_in k t q).held ≤ length q) → (x : Step S E) → m.receive s p ≡ x → length (ran_by (λ (t : S) (q : List ℕ). run_in k t q) s p x).held ≤ length p
      go next waits r = omega arith
      go next (took n e t) r = let l = shorter s p n e t r in omega (arith, l, next t (drop n p))
      go next (ends e t) r = omega arith
      go next (refuses i) r = omega arith

  -- and completes nothing
  run-holding : (k : ℕ) (s : S) (p : List ℕ) → length p ≤ k → Holding (run_in k s p).state (run_in k s p).held
  run-holding zero s p h = subst (Holding s) (sym (nil_of p h)) (m.none s)
  run-holding (suc k) s p h = go (run-holding k) (m.receive s p) refl
    where
      go :
          ((t : S) (q : List ℕ) → length q ≤ k → Holding (run_in k t q).state (run_in k t q).held) → (x : Step S E) → m.receive s p ≡ x →
          Holding (ran_by (λ (t : S) (q : List ℕ). run_in k t q) s p x).state (ran_by (λ (t : S) (q : List ℕ). run_in k t q) s p x).held
      go next waits r = subst (Holds p) (sym r) tt
      go next (took n e t) r = next t (drop n p) (let l = shorter s p n e t r in omega (arith, l))
      go next (ends e t) r = m.none t
      go next (refuses i) r = m.none s

  -- the law: bytes and then others are both at once
  abbrev RunCut : ℕ → Type 0
  RunCut k =
      (s : S) (p q : List ℕ) → length (p ++ q) ≤ k →
      run_in k s (p ++ q) ≡ after (run_in k s p).events (run_in k (run_in k s p).state ((run_in k s p).held ++ q))

  run-cut : (k : ℕ) → RunCut k
  run-cut zero s p q h = refl
  run-cut (suc k) s p q h =
      go (run-cut k) (m.receive s p) refl
      ∙ ap (λ (r : Outcome S E). after r.events (run_in (suc k) r.state (r.held ++ q))) (sym (stepped k s p (m.receive s p) refl))
    where
      go :
          RunCut k → (x : Step S E) → m.receive s p ≡ x →
          run_in (suc k) s (p ++ q)
          ≡ after (ran_by (λ (t : S) (q : List ℕ). run_in k t q) s p x).events
          (run_in (suc k) (ran_by (λ (t : S) (q : List ℕ). run_in k t q) s p x).state ((ran_by (λ (t : S) (q : List ℕ). run_in k t q) s p x).held ++ q))
      go next waits r = refl
      go next (took n e t) r =
          let b = m.some s p n e t r in
          let l = shorter s p n e t r in
          let rest : List ℕ = drop n p in
          let o : Outcome S E = run_in k t rest in
          let fits : length (rest ++ q) ≤ k = omega (arith, length-append rest q, length-append p q, l) in
          let fits₁ : length (o.held ++ q) ≤ k = omega (arith, length-append o.held q, length-append rest q, fits, run-held k t rest) in
          stepped k s (p ++ q) (took n e t) (took_more s p n e t r q)
          ∙ ap (λ (l : List ℕ). after (e ∷ []) (run_in k t l)) (drop-append-le n p q b.1)
          ∙ ap (after (e ∷ [])) (next t rest q fits)
          ∙ ap (λ (z : Outcome S E). after (e ∷ []) (after o.events z)) (run-enough k (suc k) o.state (o.held ++ q) fits₁ (omega (arith, fits₁)))
          ∙ after-after (e ∷ []) o.events (run_in (suc k) o.state (o.held ++ q))
      go next (ends e t) r =
          stepped k s (p ++ q) (ends e t) (m.end s p e t r q)
          ∙ ap (after (e ∷ [])) (sym (stepped k t q (refuses 5) (m.over s p e t r q)))
      go next (refuses i) r =
          stepped k s (p ++ q) (refuses i) (m.shut s p i r (p ++ q))
          ∙ sym (stepped k s q (refuses i) (m.shut s p i r q))

  -- ---- the calls come to that

  abbrev run : S → List ℕ → Outcome S E
  run s p = run_in (length p) s p

  run_at : (k : ℕ) (s : S) (p : List ℕ) → length p ≤ k → run_in k s p ≡ run s p
  run_at k s p h = run-enough k (length p) s p h (omega arith)

  -- one step of all
  run_by : (s : S) (p : List ℕ) (x : Step S E) → m.receive s p ≡ x → run s p ≡ ran_by run s p x
  run_by s p x r = sym (run_at (suc (length p)) s p (omega arith)) ∙ stepped (length p) s p x r ∙ go x r
    where
      go : (x : Step S E) → m.receive s p ≡ x → ran_by (λ (t : S) (q : List ℕ). run_in (length p) t q) s p x ≡ ran_by run s p x
      go waits r = refl
      go (took n e t) r = ap (after (e ∷ [])) (run_at (length p) t (drop n p) (let l = shorter s p n e t r in omega (arith, l)))
      go (ends e t) r = refl
      go (refuses i) r = refl

  -- bytes that may be held are
  held-run : (s : S) (h : List ℕ) → Holding s h → run s h ≡ still s h
  held-run s h w = run_by s h (m.receive s h) refl ∙ go (m.receive s h) w
    where
      go : (x : Step S E) → Holds h x → ran_by run s h x ≡ still s h
      go waits w = refl
      go (took n e t) w = absurd w
      go (ends e t) w = absurd w
      go (refuses i) w = ap (still s) (sym w)

  -- one call, and then what it left, with other bytes behind it
  module _ (s : S) (h p q : List ℕ) (w : Holding s h) where
    abbrev given : Offered S E
    given = offer m.receive s h p

    -- as receive is known
    offered : (x : Step S E) → m.receive s (h ++ p) ≡ x → offer m.receive s h p ≡ offer_of s h p x
    unfolding offer
    offered x r = ap (offer_of s h p) r

    abbrev Goes : Offered S E → Type 0
    Goes o = after (events_of o.answer) (run o.state (o.held ++ (left_of o.answer p ++ q))) ≡ run s (h ++ (p ++ q))

    goes : (x : Step S E) → m.receive s (h ++ p) ≡ x → Goes (offer_of s h p x)
    goes waits r =
        ap (λ (l : List ℕ). run s ((h ++ p) ++ (l ++ q))) (drop-length p) ∙ ap (run s) (append_assoc h p q)
    goes (took n e t) r =
        let few : length h < n = held_fewer s h p n e t w r in
        let b = m.some s (h ++ p) n e t r in
        let sum : length h + (n - length h) ≡ n = omega (arith, few) in
        let rest : drop n (h ++ (p ++ q)) ≡ drop (n - length h) p ++ q =
        ap (λ (k : ℕ). drop k (h ++ (p ++ q))) (sym sum)
        ∙ drop-append-add h (p ++ q) (n - length h)
        ∙ drop-append-le (n - length h) p q (omega (arith, few, b.1, length-append h p))
        in
        sym (run_by s (h ++ (p ++ q)) (took n e t) (ap (m.receive s) (sym (append_assoc h p q)) ∙ took_more s (h ++ p) n e t r q)
        ∙ ap (λ (l : List ℕ). after (e ∷ []) (run t l)) rest)
    goes (ends e t) r =
        ap (after (e ∷ [])) (run_by t q (refuses 5) (m.over s (h ++ p) e t r q))
        ∙ sym (run_by s (h ++ (p ++ q)) (ends e t) (ap (m.receive s) (sym (append_assoc h p q)) ∙ m.end s (h ++ p) e t r q))
    goes (refuses k) r =
        run_by s (h ++ q) (refuses k) (m.shut s (h ++ p) k r (h ++ q))
        ∙ sym (run_by s (h ++ (p ++ q)) (refuses k) (m.shut s (h ++ p) k r (h ++ (p ++ q))))

    pub offer-run : Goes given
    offer-run = subst Goes (sym (offered (m.receive s (h ++ p)) refl)) (goes (m.receive s (h ++ p)) refl)

    -- and what it holds completes nothing
    holds_after : (x : Step S E) → m.receive s (h ++ p) ≡ x → Holding (offer_of s h p x).state (offer_of s h p x).held
    holds_after waits r = subst (Holds (h ++ p)) (sym r) tt
    holds_after (took n e t) r = m.none t
    holds_after (ends e t) r = m.none t
    holds_after (refuses k) r = w

    pub offer-holding : Holding given.state given.held
    offer-holding = subst (λ (o : Offered S E). Holding o.state o.held) (sym (offered (m.receive s (h ++ p)) refl)) (holds_after (m.receive s (h ++ p)) refl)

  -- what is left of an input is shorter than it, where there was one
  left_shorter : (s : S) (h : List ℕ) (b : ℕ) (p : List ℕ) → Holding s h → length (left_of (offer m.receive s h (b ∷ p)).answer (b ∷ p)) ≤ length p
  left_shorter s h b p w =
      subst (λ (o : Offered S E). length (left_of o.answer (b ∷ p)) ≤ length p) (sym (offered s h (b ∷ p) [] w (m.receive s (h ++ (b ∷ p))) refl)) (go (m.receive s (h ++ (b ∷ p))) refl)
    where
      go : (x : Step S E) → m.receive s (h ++ (b ∷ p)) ≡ x → length (left_of (offer_of s h (b ∷ p) x).answer (b ∷ p)) ≤ length p
      go waits r = omega (arith, length-drop (length (b ∷ p)) (b ∷ p))
      go (took n e t) r = omega (arith, length-drop (n - length h) (b ∷ p), held_fewer s h (b ∷ p) n e t w r)
      go (ends e t) r = omega arith
      go (refuses k) r = omega arith

  -- all calls on an input come to the run of the pending bytes
  abbrev Drained : ℕ → Type 0
  Drained k = (s : S) (h p : List ℕ) → Holding s h → length p ≤ k → drain_in m.receive k s h p ≡ run s (h ++ p)

  drain_in_lem : (k : ℕ) → Drained k
  unfolding drain_in
  drain_in_lem zero s h p w l = sym (ap (run s) (ap (λ (z : List ℕ). h ++ z) (nil_of p l) ∙ append-nil h) ∙ held-run s h w)
  drain_in_lem (suc k) s h [] w l = sym (ap (run s) (append-nil h) ∙ held-run s h w)
  drain_in_lem (suc k) s h (b ∷ p) w l =
      let o : Offered S E = offer m.receive s h (b ∷ p) in
      let rest : List ℕ = left_of o.answer (b ∷ p) in
      ap (after (events_of o.answer)) (drain_in_lem k o.state o.held rest (offer-holding s h (b ∷ p) [] w) (omega (arith, l, left_shorter s h b p w)))
      ∙ ap (λ (z : List ℕ). after (events_of o.answer) (run o.state (o.held ++ z))) (sym (append-nil rest))
      ∙ offer-run s h (b ∷ p) [] w
      ∙ ap (λ (z : List ℕ). run s (h ++ z)) (append-nil (b ∷ p))

  drain-run : (s : S) (h p : List ℕ) → Holding s h → drain m.receive s h p ≡ run s (h ++ p)
  unfolding drain
  drain-run s h p w = drain_in_lem (length p) s h p w (omega arith)

  -- as many calls as the input has bytes are enough: more of them do nothing
  pub drain-enough : (k : ℕ) (s : S) (h p : List ℕ) → Holding s h → length p ≤ k → drain_in m.receive k s h p ≡ drain m.receive s h p
  drain-enough k s h p w l = drain_in_lem k s h p w l ∙ sym (drain-run s h p w)

  -- what is held after them completes nothing
  pub drain-holding : (s : S) (h p : List ℕ) → Holding s h → Holding (drain m.receive s h p).state (drain m.receive s h p).held
  drain-holding s h p w =
      subst (λ (o : Outcome S E). Holding o.state o.held) (sym (drain-run s h p w)) (run-holding (length (h ++ p)) s (h ++ p) (omega arith))

  -- ---- the theorems

  -- a stream that holds nothing
  pub fresh : (s : S) → Holding s []
  fresh s = m.none s

  -- one cut: p and then q is p with q behind it, with the events appended
  pub cut_law :
      (s : S) (h p q : List ℕ) → Holding s h →
      drain m.receive s h (p ++ q)
      ≡ after (drain m.receive s h p).events (drain m.receive (drain m.receive s h p).state (drain m.receive s h p).held q)
  cut_law s h p q w =
      let o : Outcome S E = drain m.receive s h p in
      let both : List ℕ = (h ++ p) ++ q in
      let i : Outcome S E = run s (h ++ p) in
      let k : ℕ = length both in
      let front : run_in k s (h ++ p) ≡ i = run_at k s (h ++ p) (omega (arith, length-append (h ++ p) q)) in
      let kept_short : length (i.held ++ q) ≤ k = omega (arith, length-append (h ++ p) q, length-append i.held q, run-held (length (h ++ p)) s (h ++ p)) in
      drain-run s h (p ++ q) w
      ∙ ap (run s) (sym (append_assoc h p q))
      ∙ run-cut k s (h ++ p) q (omega arith)
      ∙ ap (λ (z : Outcome S E). after z.events (run_in k z.state (z.held ++ q))) front
      ∙ ap (after i.events) (run_at k i.state (i.held ++ q) kept_short)
      ∙ ap (λ (z : Outcome S E). after z.events (run z.state (z.held ++ q))) (sym (drain-run s h p w))
      ∙ ap (after o.events) (sym (drain-run o.state o.held q (drain-holding s h p w)))

  -- pieces: as their bytes in one
  pub pieces_law : (ps : List (List ℕ)) (s : S) (h : List ℕ) → Holding s h → drain_all m.receive s h ps ≡ drain m.receive s h (joined ps)
  unfolding drain_all joined
  pieces_law [] s h w = sym (drain-run s h [] w ∙ ap (run s) (append-nil h) ∙ held-run s h w)
  pieces_law (p ∷ ps) s h w =
      let o : Outcome S E = drain m.receive s h p in
      ap (after o.events) (pieces_law ps o.state o.held (drain-holding s h p w)) ∙ sym (cut_law s h p (joined ps) w)

  -- two ways to cut the same bytes: the same events in order, the same end state and the same bytes held
  pub cuts_same :
      (ps qs : List (List ℕ)) → joined ps ≡ joined qs → (s : S) (h : List ℕ) → Holding s h → drain_all m.receive s h ps ≡ drain_all m.receive s h qs
  cuts_same ps qs e s h w = pieces_law ps s h w ∙ ap (drain m.receive s h) e ∙ sym (pieces_law qs s h w)

  singles-joined : (bytes : List ℕ) → joined (singles bytes) ≡ bytes
  unfolding joined singles
  singles-joined [] = refl
  singles-joined (b ∷ bs) = ap (λ (l : List ℕ). b ∷ l) (singles-joined bs)

  -- each byte by itself, and all at once
  pub byte-by-byte : (bytes : List ℕ) (s : S) (h : List ℕ) → Holding s h → drain_all m.receive s h (singles bytes) ≡ drain m.receive s h bytes
  byte-by-byte bytes s h w = pieces_law (singles bytes) s h w ∙ ap (drain m.receive s h) (singles-joined bytes)

  -- a caller that offers as much as it likes of what is left, at each call: what it did, and then the rest, is all at once
  pub calls_law :
      (cs : List ℕ) (s : S) (h bytes : List ℕ) → Holding s h →
      after (called m.receive s h bytes cs).outcome.events
      (drain m.receive (called m.receive s h bytes cs).outcome.state (called m.receive s h bytes cs).outcome.held (called m.receive s h bytes cs).left)
      ≡ drain m.receive s h bytes
  unfolding called
  calls_law [] s h bytes w = refl
  calls_law (c ∷ cs) s h bytes w =
      let o : Offered S E = offer m.receive s h (take c bytes) in
      let rest : List ℕ = left_of o.answer (take c bytes) ++ drop c bytes in
      let holds : Holding o.state o.held = offer-holding s h (take c bytes) [] w in
      sym (after-after (events_of o.answer) _ _)
      ∙ ap (after (events_of o.answer)) (calls_law cs o.state o.held rest holds ∙ drain-run o.state o.held rest holds)
      ∙ offer-run s h (take c bytes) (drop c bytes) w
      ∙ ap (λ (z : List ℕ). run s (h ++ z)) (take-append-drop c bytes)
      ∙ sym (drain-run s h bytes w)

  after-still : (r : Outcome S E) → after r.events (still r.state r.held) ≡ r
  after-still r i = record { events = append-nil r.events i; state = r.state; held = r.held }

  -- once nothing is left, it has what the uncut run has
  pub calls_same :
      (cs : List ℕ) (s : S) (h bytes : List ℕ) → Holding s h → (called m.receive s h bytes cs).left ≡ [] → (called m.receive s h bytes cs).outcome ≡ drain m.receive s h bytes
  unfolding drain drain_in
  calls_same cs s h bytes w e =
      let r : Called S E = called m.receive s h bytes cs in
      sym (after-still r.outcome)
      ∙ ap (λ (l : List ℕ). after r.outcome.events (drain m.receive r.outcome.state r.outcome.held l)) (sym e)
      ∙ calls_law cs s h bytes w

  -- the quick case: nothing held and a whole FPDU in the input is receive on the input itself
  pub offer_quick : (s : S) (p : List ℕ) (n : ℕ) (e : E) (t : S) → m.receive s p ≡ took n e t → offer m.receive s [] p ≡ record { answer = done n e; state = t; held = [] }
  unfolding offer
  offer_quick s p n e t r =
      let all : n - 0 ≡ n = omega arith in
      ap (offer_of s [] p) r ∙ ap (λ (k : ℕ). record { answer = done k e; state = t; held = [] }) all

  -- a call that completes an FPDU takes some bytes of its input, and no more than are there
  pub offer_count : (s : S) (h p : List ℕ) (n : ℕ) (e : E) → Holding s h → (offer m.receive s h p).answer ≡ done n e → (1 ≤ n) × (n ≤ length p)
  unfolding offer
  offer_count s h p n e w = go (m.receive s (h ++ p)) refl
    where
      go : (x : Step S E) → m.receive s (h ++ p) ≡ x → (offer_of s h p x).answer ≡ done n e → (1 ≤ n) × (n ≤ length p)
      go waits r q = absurd (let no : ◌≡◌ {A = ℕ} 0 1 = cc in omega arith)
      go (took k f t) r q =
          let same : k - length h ≡ n = cc in
          let few : length h < k = held_fewer s h p k f t w r in
          let b = m.some s (h ++ p) k f t r in
          (omega (arith, same, few), omega (arith, same, b.1, length-append h p))
      go (ends f t) r q = absurd (let no : ◌≡◌ {A = ℕ} 0 1 = cc in omega arith)
      go (refuses k) r q = absurd (let no : ◌≡◌ {A = ℕ} 0 1 = cc in omega arith)

  -- an empty call to a stream that waits changes nothing
  pub offer-empty : (s : S) (h : List ℕ) → m.receive s h ≡ waits → offer m.receive s h [] ≡ record { answer = kept 0; state = s; held = h }
  unfolding offer
  offer-empty s h r =
      ap (offer_of s h []) (ap (m.receive s) (append-nil h) ∙ r) ∙ ap (λ (l : List ℕ). record { answer = kept 0; state = s; held = l }) (append-nil h)

  -- ---- a stream that has ended

  -- the state refuses every call with k
  abbrev pub Shut : S → ℕ → Type 0
  Shut t k = (q : List ℕ) → m.receive t q ≡ refuses k

  -- each offer is refused, and nothing is kept
  pub shut-offer : (t : S) (k : ℕ) → Shut t k → (h q : List ℕ) → offer m.receive t h q ≡ record { answer = refused k; state = t; held = h }
  unfolding offer
  shut-offer t k shut h q = ap (offer_of t h q) (shut (h ++ q))

  -- a peer's refusal: nothing is held, and every later offer is refused with 5 and not kept
  pub ended-shut :
      (s : S) (h p : List ℕ) (e : E) → (offer m.receive s h p).answer ≡ ended e →
      ((offer m.receive s h p).held ≡ []) × Shut (offer m.receive s h p).state 5
  unfolding offer
  ended-shut s h p e = go (m.receive s (h ++ p)) refl
    where
      go : (x : Step S E) → m.receive s (h ++ p) ≡ x → (offer_of s h p x).answer ≡ ended e → ((offer_of s h p x).held ≡ []) × Shut (offer_of s h p x).state 5
      go waits r q = absurd (let no : ◌≡◌ {A = ℕ} 0 1 = cc in omega arith)
      go (took n f t) r q = absurd (let no : ◌≡◌ {A = ℕ} 0 1 = cc in omega arith)
      go (ends f t) r q = (refl, m.over s (h ++ p) f t r)
      go (refuses k) r q = absurd (let no : ◌≡◌ {A = ℕ} 0 1 = cc in omega arith)

  -- later pieces tell nothing, change nothing and are not kept
  pub shut-pieces : (t : S) (k : ℕ) → Shut t k → (qs : List (List ℕ)) → drain_all m.receive t [] qs ≡ still t []
  shut-pieces t k shut qs = pieces_law qs t [] (fresh t) ∙ drain-run t [] (joined qs) (fresh t) ∙ run_by t (joined qs) (refuses k) (shut (joined qs))

  -- so that what comes after pieces that ended the stream does not matter: their outcome is that of all
  pub end-last :
      (ps : List (List ℕ)) (later : List ℕ) (s : S) (h : List ℕ) → Holding s h → (k : ℕ) → Shut (drain_all m.receive s h ps).state k →
      ((drain_all m.receive s h ps).held ≡ []) × (drain m.receive s h (joined ps ++ later) ≡ drain_all m.receive s h ps)
  end-last ps later s h w k shut =
      let r : Outcome S E = drain_all m.receive s h ps in
      let same : drain m.receive s h (joined ps) ≡ r = sym (pieces_law ps s h w) in
      let holds : Holding r.state r.held = subst (λ (o : Outcome S E). Holding o.state o.held) same (drain-holding s h (joined ps) w) in
      let nothing : r.held ≡ [] = subst (Holds r.held) (shut r.held) holds in (
        nothing,
        cut_law s h (joined ps) later w
            ∙ ap (λ (o : Outcome S E). after o.events (drain m.receive o.state o.held later)) same
            ∙ ap (after r.events)
            (drain-run r.state r.held later holds ∙ run_by r.state (r.held ++ later) (refuses k) (shut (r.held ++ later)) ∙ ap (still r.state) (sym nothing))
            ∙ after-still r,
      )
