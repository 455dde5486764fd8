-- What a message that was begun is, and what its beginning asked.
use Prim.Native.Nat.{ℕ, ◌+◌, ◌≤◌}
use mathlib.Core.Path.{◌≡◌, refl}
use mathlib.Core.Bool.{Bool, true, false, not}
use native.Mathlib.Omega.{arith}
use lib.Dec.{leb}
use borrow.Author.Tests.{leb-true, ltb-false, not-true}
use Rattle.wire.specs.Wire.{pick, both}
use Rattle.wire.proofs.Laws.{both_true}
use Rattle.mpa.specs.Fpdu.{max_ulpdu}
use Rattle.memory.specs.Window.{wraps}
use Rattle.rdmap.specs.Message.{is_send}
use Rattle.sender.specs.Message.{max32, sized, begun, write_begun, stag_held, send_begun}
use Rattle.sender.specs.declared.Message.{Message}
use Rattle.delivery.proofs.Send.{send_at}
use Rattle.delivery.proofs.Write.{write_at}
use Rattle.std.specs.Prelude.{Err, Ok}
use Rattle.wire.specs.declared.refusal.LocalRefusal.TheVariants.{OutOfRange, OverLimit}

-- a beginning that is accepted: its two tests hold, and the message is the one given
accepted : (a : Bool) (limit : ℕ) (x m : Message) → pick a (begun limit x) (Err OutOfRange) ≡ Ok m → (a ≡ true) × ((limit ≤ max_ulpdu) × (m ≡ x))
accepted false limit x m e = absurd (let no : ◌≡◌ {A = ℕ} 0 1 = cc in omega arith)
accepted true limit x m e = (refl, go (leb limit max_ulpdu) refl e)
  where
    go : (t : Bool) → leb limit max_ulpdu ≡ t → pick t (Ok x) (Err OverLimit) ≡ Ok m → (limit ≤ max_ulpdu) × (m ≡ x)
    go false q e = absurd (let no : ◌≡◌ {A = ℕ} 0 1 = cc in omega arith)
    go true q e = (leb-true limit max_ulpdu q, let same : m ≡ x = cc in same)

pub record SendAccepted (limit opcode msn stag len : ℕ) (m : Message) : Type 0 where
  pub low : 19 ≤ limit
  pub high : limit ≤ max_ulpdu
  pub short : len ≤ max32
  pub send : is_send opcode ≡ true
  pub msn-fits : msn ≤ max32
  pub stag_fits : stag_held opcode stag ≤ max32
  pub is : m ≡ send_at limit opcode (stag_held opcode stag) msn len 0 false

pub send-accepted : (limit opcode msn stag len : ℕ) (m : Message) → send_begun limit opcode msn stag len ≡ Ok m → SendAccepted limit opcode msn stag len m
unfolding send_begun
send-accepted limit opcode msn stag len m e =
    let a = accepted (both (sized limit len) (both (is_send opcode) (both (leb msn max32) (leb (stag_held opcode stag) max32)))) limit (send_at limit opcode (stag_held opcode stag) msn len 0 false) m e in
    let t = both_true (sized limit len) (both (is_send opcode) (both (leb msn max32) (leb (stag_held opcode stag) max32))) a.0 in
    let z = both_true (leb 19 limit) (leb len max32) t.0 in
    let u = both_true (is_send opcode) (both (leb msn max32) (leb (stag_held opcode stag) max32)) t.1 in
    let v = both_true (leb msn max32) (leb (stag_held opcode stag) max32) u.1 in
    record {
      low = leb-true 19 limit z.0;
      high = a.1.0;
      short = leb-true len max32 z.1;
      send = u.0;
      msn-fits = leb-true msn max32 v.0;
      stag_fits = leb-true (stag_held opcode stag) max32 v.1;
      is = a.1.1;
    }

pub record WriteAccepted (limit stag to len : ℕ) (m : Message) : Type 0 where
  pub low : 19 ≤ limit
  pub high : limit ≤ max_ulpdu
  pub stag_fits : stag ≤ max32
  pub ends : to + len ≤ 18446744073709551616
  pub is : m ≡ write_at limit stag to len 0 false

pub write-accepted : (limit stag to len : ℕ) (m : Message) → write_begun limit stag to len ≡ Ok m → WriteAccepted limit stag to len m
unfolding write_begun wraps
write-accepted limit stag to len m e =
    let a = accepted (both (sized limit len) (both (leb stag max32) (not (wraps to len)))) limit (write_at limit stag to len 0 false) m e in
    let t = both_true (sized limit len) (both (leb stag max32) (not (wraps to len))) a.0 in
    let z = both_true (leb 19 limit) (leb len max32) t.0 in
    let u = both_true (leb stag max32) (not (wraps to len)) t.1 in
    record {
      low = leb-true 19 limit z.0;
      high = a.1.0;
      stag_fits = leb-true stag max32 u.0;
      ends = ltb-false 18446744073709551616 (to + len) (not-true (wraps to len) u.1);
      is = a.1.1;
    }
