-- What two sides agree is consistent: where a responder answers an initiator's terms, the initiator settles by the reply, it has one kind for its first message that both
-- said, its ORD is at most the responder's IRD, and the responder's ORD is at most its IRD, unless the initiator left the depth out of the negotiation.
-- Assumes nothing.
use Prim.Native.Nat.{ℕ, ◌≤◌, min}
use mathlib.Core.Bool.{Bool, true, false}
use mathlib.Core.Path.{◌≡◌, refl, sym, ap, ap₂, ◌∙◌, subst}
use native.Mathlib.Omega.{arith}
use lib.Dec.{leb, eqb}
use borrow.Author.Tests.{leb-true, le-leb, eqb-true, eqb-false}
use Rattle.wire.specs.Wire.{pick, both}
use Rattle.wire.proofs.Laws.{both_true}
use Rattle.startup2.specs.declared.Terms.{Terms}
use Rattle.startup2.specs.declared.Agreed.{Agreed}
use Rattle.startup2.specs.Terms.{max_depth, terms_fit, kinds_of, said_of}
use Rattle.startup2.specs.Agree.{reaches, capped_of, sends, writes, reads, kind_of, told_of, reply_of, unanswerable, answered_of, unsettled, kept_of, settled_of}
use Rattle.startup2.proofs.Fits.{Fit, fit}
use Rattle.std.specs.Prelude.{Err, Ok, Result}
use Rattle.wire.specs.declared.refusal.LocalRefusal.{LocalRefusal}
use Rattle.wire.specs.declared.refusal.LocalRefusal.TheVariants.{IrdTooSmall, NoKind, OutOfRange}

-- what an answer tells
pub record Answer (own request reply : Terms) (ord : ℕ) : Type 0 where
  pub fits : terms_fit own ≡ true
  pub asked : terms_fit request ≡ true
  pub reached : reaches own.ird request.ord ≡ true
  pub kind : unanswerable own request ≡ false
  pub reply_is : reply_of own request ≡ reply
  pub ord_is : capped_of own.ord request.ird ≡ ord

pub answer_of_lem : (own request reply : Terms) (ord : ℕ) → answered_of own request ≡ Ok (record { reply = reply; ord = ord }) → Answer own request reply ord
unfolding answered_of
answer_of_lem own request reply ord = fitted (both (terms_fit own) (terms_fit request)) refl
  where
    kinded : (b : Bool) → unanswerable own request ≡ b → pick {A = Result Agreed LocalRefusal} b (Err NoKind) (Ok (record { reply = (reply_of own request); ord = (capped_of own.ord request.ird) })) ≡ Ok (record { reply = reply; ord = ord }) → both (terms_fit own) (terms_fit request) ≡ true → reaches own.ird request.ord ≡ true → Answer own request reply ord
    kinded true k e f r = absurd (let z : ◌≡◌ {A = ℕ} 0 1 = cc in omega arith)
    kinded false k e f r =
        let a = both_true (terms_fit own) (terms_fit request) f in
        let z : ◌≡◌ {A = Agreed} (record { reply = reply_of own request; ord = capped_of own.ord request.ird }) (record { reply = reply; ord = ord }) = cc in
        record { fits = a.0; asked = a.1; reached = r; kind = k; reply_is = ap (λ (x : Agreed). x.reply) z; ord_is = ap (λ (x : Agreed). x.ord) z }

    reached : (b : Bool) → reaches own.ird request.ord ≡ b → pick b (pick {A = Result Agreed LocalRefusal} (unanswerable own request) (Err NoKind) (Ok (record { reply = (reply_of own request); ord = (capped_of own.ord request.ird) }))) (Err IrdTooSmall) ≡ Ok (record { reply = reply; ord = ord }) → both (terms_fit own) (terms_fit request) ≡ true → Answer own request reply ord
    reached true r e f = kinded (unanswerable own request) refl e f r
    reached false r e f = absurd (let z : ◌≡◌ {A = ℕ} 0 1 = cc in omega arith)

    fitted : (b : Bool) → both (terms_fit own) (terms_fit request) ≡ b → pick b (pick (reaches own.ird request.ord) (pick {A = Result Agreed LocalRefusal} (unanswerable own request) (Err NoKind) (Ok (record { reply = (reply_of own request); ord = (capped_of own.ord request.ird) }))) (Err IrdTooSmall)) (Err OutOfRange) ≡ Ok (record { reply = reply; ord = ord }) → Answer own request reply ord
    fitted true f e = reached (reaches own.ird request.ord) refl e f
    fitted false f e = absurd (let z : ◌≡◌ {A = ℕ} 0 1 = cc in omega arith)

-- ---- the depths

-- a depth that is negotiated and reached is no more than what it is to reach
pub reached_le : (ird ord : ℕ) → reaches ird ord ≡ true → (ord ≡ max_depth → ⊥) → ord ≤ ird
reached_le ird ord e n = go (eqb ord max_depth) refl e
  where
    go : (b : Bool) → eqb ord max_depth ≡ b → pick b true (leb ord ird) ≡ true → ord ≤ ird
    go true h e = absurd (n (eqb-true ord max_depth h))
    go false h e = leb-true ord ird e

-- an ORD that is capped by a depth that is negotiated is no more than it
pub capped_le : (ord ird : ℕ) → (ird ≡ max_depth → ⊥) → capped_of ord ird ≤ ird
capped_le ord ird n = go (eqb ird max_depth) refl
  where
    go : (b : Bool) → eqb ird max_depth ≡ b → pick b ord (min ord ird) ≤ ird
    go true h = absurd (n (eqb-true ird max_depth h))
    go false h = omega arith

-- a depth that is no more than what it is to reach reaches it
reaches-le : (ird ord : ℕ) → ord ≤ ird → reaches ird ord ≡ true
reaches-le ird ord h = go (eqb ord max_depth)
  where
    go : (b : Bool) → pick b true (leb ord ird) ≡ true
    go true = refl
    go false = le-leb ord ird h

-- the ORD that a reply tells is within the initiator's IRD, or is left out as that was
told_reached : (ird ord : ℕ) → reaches ird (told_of ird (capped_of ord ird)) ≡ true
told_reached ird ord = go (eqb ird max_depth) refl
  where
    go : (b : Bool) → eqb ird max_depth ≡ b → reaches ird (pick b max_depth (pick b ord (min ord ird))) ≡ true
    go true h = refl
    go false h = reaches-le ird (min ord ird) (omega arith)

-- the initiator's ORD stays as it was, since the IRD that a reply tells reaches it
kept_ord : (ird ord : ℕ) → reaches ird ord ≡ true → capped_of ord (told_of ord ird) ≡ ord
kept_ord ird ord = go (eqb ord max_depth) refl
  where
    least : (b : Bool) → ord ≤ ird → pick b ord (min ord ird) ≡ ord
    least true h = refl
    least false h = omega arith

    go : (b : Bool) → eqb ord max_depth ≡ b → pick b true (leb ord ird) ≡ true → capped_of ord (pick b max_depth ird) ≡ ord
    go true h e = refl
    go false h e = least (eqb ird max_depth) (leb-true ord ird e)

-- a depth that a reply tells fits its field
told-fits : (asked depth : ℕ) → depth ≤ max_depth → leb (told_of asked depth) max_depth ≡ true
told-fits asked depth h = go (eqb asked max_depth)
  where
    go : (b : Bool) → leb (pick b max_depth depth) max_depth ≡ true
    go true = refl
    go false = le-leb depth max_depth h

capped_fits : (ord ird : ℕ) → ord ≤ max_depth → capped_of ord ird ≤ max_depth
capped_fits ord ird h = go (eqb ird max_depth)
  where
    go : (b : Bool) → pick b ord (min ord ird) ≤ max_depth
    go true = h
    go false = omega arith

-- ---- the kind

-- a number that is one kind, and among some kinds
abbrev pub among : ℕ → ℕ → Bool
among k kinds = pick (eqb k 4) (sends kinds) (pick (eqb k 2) (writes kinds) (pick (eqb k 1) (reads kinds) false))

-- what the kind that is picked is: one that both have, which the other side would pick of it again; or none
pub record Kind (k a b : ℕ) : Type 0 where
  pub fits : leb k 7 ≡ true
  pub again : kind_of b k ≡ k
  pub mine : eqb k 0 ≡ false → among k a ≡ true
  pub theirs : eqb k 0 ≡ false → among k b ≡ true

none : (x : Bool) → both x false ≡ false
none true = refl
none false = refl

-- which kind the other side would pick of one kind, and of none
again-send : (b : ℕ) → sends b ≡ true → kind_of b 4 ≡ 4
again-send b q = ap (λ (x : Bool). pick (both x true) 4 (pick (both (writes b) (writes 4)) 2 (pick (both (reads b) (reads 4)) 1 0))) q

again-write : (b : ℕ) → writes b ≡ true → kind_of b 2 ≡ 2
again-write b q =
    ap (λ (x : Bool). pick x 4 (pick (both (writes b) true) 2 (pick (both (reads b) (reads 2)) 1 0))) (none (sends b))
    ∙ ap (λ (x : Bool). pick (both x true) 2 (pick (both (reads b) (reads 2)) 1 0)) q

again_read : (b : ℕ) → reads b ≡ true → kind_of b 1 ≡ 1
again_read b q =
    ap₂ (λ (x y : Bool). pick x 4 (pick y 2 (pick (both (reads b) true) 1 0))) (none (sends b)) (none (writes b))
    ∙ ap (λ (x : Bool). pick (both x true) 1 0) q

pub again-none : (b : ℕ) → kind_of b 0 ≡ 0
again-none b =
    ap₂ (λ (x y : Bool). pick x 4 (pick y 2 (pick (both (reads b) false) 1 0))) (none (sends b)) (none (writes b))
    ∙ ap (λ (x : Bool). pick x 1 0) (none (reads b))

pub kind_is : (a b : ℕ) → Kind (kind_of a b) a b
kind_is a b = first (sends a) (sends b) refl refl
  where
    nothing : Kind 0 a b
    nothing = record { fits = refl; again = again-none b; mine = λ e. absurd (eqb-false 0 0 e refl); theirs = λ e. absurd (eqb-false 0 0 e refl) }

    third : (x y : Bool) → reads a ≡ x → reads b ≡ y → Kind (pick (both x y) 1 0) a b
    third true true p q = record { fits = refl; again = again_read b q; mine = λ e. p; theirs = λ e. q }
    third true false p q = nothing
    third false y p q = nothing

    second : (x y : Bool) → writes a ≡ x → writes b ≡ y → Kind (pick (both x y) 2 (pick (both (reads a) (reads b)) 1 0)) a b
    second true true p q = record { fits = refl; again = again-write b q; mine = λ e. p; theirs = λ e. q }
    second true false p q = third (reads a) (reads b) refl refl
    second false y p q = third (reads a) (reads b) refl refl

    first : (x y : Bool) → sends a ≡ x → sends b ≡ y → Kind (pick (both x y) 4 (pick (both (writes a) (writes b)) 2 (pick (both (reads a) (reads b)) 1 0))) a b
    first true true p q = record { fits = refl; again = again-send b q; mine = λ e. p; theirs = λ e. q }
    first true false p q = second (writes a) (writes b) refl refl
    first false y p q = second (writes a) (writes b) refl refl

-- ---- the two sides

-- the kinds of a reply, to an initiator of kinds k by A, from a responder of kinds m
abbrev answers : Bool → ℕ → ℕ → ℕ
answers p k m = kind_of m (pick p (pick p k 0) 0)

-- they are read as they were said
answers-said : (p : Bool) (k m : ℕ) → pick p (answers p k m) 0 ≡ answers p k m
answers-said true k m = refl
answers-said false k m = sym (again-none m)

-- and the initiator picks them again
answers-again : (p : Bool) (k m : ℕ) → kind_of (pick p k 0) (pick p (answers p k m) 0) ≡ answers p k m
answers-again true k m = (kind_is m k).again
answers-again false k m = sym (again-none m)

answers_settle : (p : Bool) (k m : ℕ) → both p (eqb (answers p k m) 0) ≡ false → both (pick p true p) (eqb (kind_of (pick p k 0) (pick p (answers p k m) 0)) 0) ≡ false
answers_settle true k m e = ap (λ (x : ℕ). eqb x 0) (answers-again true k m) ∙ e
answers_settle false k m e = refl

-- an initiator that said its terms, and a responder's answer to them
module _ (initiator responder reply : Terms) (ord : ℕ) (f : terms_fit initiator ≡ true) (q : answered_of responder (said_of initiator) ≡ Ok (record { reply = reply; ord = ord })) where
  a : Answer responder (said_of initiator) reply ord
  a = answer_of_lem responder (said_of initiator) reply ord q

  r : Fit responder
  r = fit responder a.fits

  abbrev said : Terms
  said = reply_of responder (said_of initiator)

  -- the responder's IRD reaches the initiator's ORD
  pub reads-there : (initiator.ord ≡ max_depth → ⊥) → initiator.ord ≤ responder.ird
  reads-there n = reached_le responder.ird initiator.ord a.reached n

  -- the initiator's IRD reaches the responder's ORD
  pub reads_back : (initiator.ird ≡ max_depth → ⊥) → ord ≤ initiator.ird
  reads_back n = subst (λ (x : ℕ). x ≤ initiator.ird) a.ord_is (capped_le responder.ord initiator.ird n)

  -- with A, the reply has it, and exactly one kind, which both support
  pub one_kind : initiator.peer ≡ true → (reply.peer ≡ true) × (among reply.kinds initiator.kinds ≡ true) × (among reply.kinds responder.kinds ≡ true)
  one_kind p =
      let k = kind_is responder.kinds (kinds_of (said_of initiator)) in
      let some : eqb said.kinds 0 ≡ false = sym (ap (λ (b : Bool). both b (eqb said.kinds 0)) p) ∙ a.kind in
      let mine : kinds_of (said_of initiator) ≡ initiator.kinds = ap (λ (b : Bool). pick b (pick b initiator.kinds 0) 0) p in
      subst (λ (t : Terms). (t.peer ≡ true) × (among t.kinds initiator.kinds ≡ true) × (among t.kinds responder.kinds ≡ true)) a.reply_is
      (p, subst (λ (x : ℕ). among said.kinds x ≡ true) mine (k.theirs some), k.mine some)

  -- the initiator reads the reply as it was said
  pub reply_said : said_of reply ≡ reply
  reply_said =
      subst (λ (t : Terms). said_of t ≡ t) a.reply_is
      (ap (λ (k : ℕ). record { peer = said.peer; ird = said.ird; ord = said.ord; kinds = k }) (answers-said initiator.peer initiator.kinds responder.kinds))

  -- the reply's numbers fit their fields
  said_fits : terms_fit said ≡ true
  said_fits =
      ap₂ both (told-fits initiator.ord responder.ird r.ird)
      (ap₂ both (told-fits initiator.ird (capped_of responder.ord initiator.ird) (capped_fits responder.ord initiator.ird r.ord))
      (kind_is responder.kinds (kinds_of (said_of initiator))).fits)

  pub reply_fits : terms_fit reply ≡ true
  reply_fits = subst (λ (t : Terms). terms_fit t ≡ true) a.reply_is said_fits

  kept : kept_of initiator said ≡ record { peer = initiator.peer; ird = initiator.ird; ord = initiator.ord; kinds = said.kinds }
  kept =
      ap₂ (λ (o k : ℕ). record { peer = initiator.peer; ird = initiator.ird; ord = o; kinds = k }) (kept_ord responder.ird initiator.ord a.reached)
      (answers-again initiator.peer initiator.kinds responder.kinds)

  settled : settled_of initiator said ≡ Ok (record { peer = initiator.peer; ird = initiator.ird; ord = initiator.ord; kinds = said.kinds })
  unfolding settled_of
  settled =
      let last : (Result Terms LocalRefusal) = pick (unsettled initiator said) (Err NoKind) (Ok (kept_of initiator said)) in
      ap (λ (b : Bool). pick b (pick (reaches initiator.ird said.ord) last (Err IrdTooSmall)) (Err OutOfRange)) (ap₂ both f said_fits)
      ∙ ap (λ (b : Bool). pick b last (Err IrdTooSmall)) (told_reached initiator.ird responder.ord)
      ∙ ap (λ (b : Bool). pick b (Err NoKind) (Ok (kept_of initiator said))) (answers_settle initiator.peer initiator.kinds responder.kinds a.kind)
      ∙ ap Ok kept

  -- it settles by it: its depths stay as they were, and its first message is of the reply's kind
  pub settles : settled_of initiator reply ≡ Ok (record { peer = initiator.peer; ird = initiator.ird; ord = initiator.ord; kinds = reply.kinds })
  settles = subst (λ (t : Terms). settled_of initiator t ≡ Ok (record { peer = initiator.peer; ird = initiator.ird; ord = initiator.ord; kinds = t.kinds })) a.reply_is settled
