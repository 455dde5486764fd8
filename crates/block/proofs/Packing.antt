-- Numbers in range are read back from the word into which they are packed.
use Prim.Native.Nat.{ℕ, ◌+◌, ◌*◌, ◌/◌, ◌%◌, ◌<◌, ◌≤◌}
use mathlib.Core.Bool.{Bool, true, false}
use mathlib.Core.Path.{◌≡◌, ap, ◌∙◌}
use native.Mathlib.Omega.{arith}
use mathlib.Core.List.{[]}
use lib.ListN.{get_or}
use borrow.Author.Tests.{eq-eqb, ne_eqb}
use Rattle.memory.specs.Buffer.{no_buffer}
use Rattle.memory.specs.declared.buffer.Buffer.{Buffer}
use Rattle.memory.specs.declared.part.Part.{Part}
use Rattle.memory.specs.declared.window.Window.{Window}
use Rattle.rdmap.specs.declared.framing.Framing.{Framing}
use Rattle.rdmap.specs.declared.phase.Phase.{Phase}
use Rattle.rdmap.specs.declared.read.ReadRequest.{ReadRequest}
use Rattle.rdmap.specs.declared.read.Reads.{Reads}
use Rattle.rdmap.specs.declared.sends.Sends.{Sends}
use Rattle.block.specs.Words.{sequence, pair_word, lower_half, upper_half, flag_word, flag_in, part_in, part_words, buffer_in, buffer_word, window_in, access_word, window_words}
use Rattle.block.specs.Queue.{sends_in, sends_words, request_in, request_words, requests_in, reads_in, reads_words}
use Rattle.block.specs.Stream.{phase_in, phase_word, phase_words, framing_in, framing_word, framing_words}

pub lower_pair : (a b : ℕ) → a < 4294967296 → lower_half (pair_word a b) ≡ a
lower_pair a b h = omega arith

pub upper_pair : (a b : ℕ) → a < 4294967296 → b < 4294967296 → upper_half (pair_word a b) ≡ b
upper_pair a b ha hb =
    let q : pair_word a b / 4294967296 ≡ b = omega arith in
    ap (λ (n : ℕ). n % 4294967296) q ∙ omega arith

pub buffer_back : (b : Buffer) → b.start < 4294967296 → b.len < 4294967296 → buffer_in (buffer_word b) ≡ b
buffer_back b hs hl =
    let start = lower_pair b.start b.len hs in
    let len = upper_pair b.start b.len hs hl in
    λ i. record { start = start i; len = len i }

pub part_back : (p : Part) → p.start < 4294967296 → p.end < 4294967296 → part_in (part_words p) ≡ p
part_back p hs he =
    let start = lower_pair p.start p.end hs in
    let end = upper_pair p.start p.end hs he in
    λ i. record { start = start i; end = end i }

-- a flag beside other bits
flag_small : (b : Bool) → flag_word b ≤ 1
flag_small true = omega arith
flag_small false = omega arith

flag_low : (b : Bool) (n : ℕ) → flag_in (flag_word b + n * 2) ≡ b
flag_low true n = eq-eqb ((1 + n * 2) % 2) 1 (omega arith)
flag_low false n = ne_eqb ((0 + n * 2) % 2) 1 (λ e. omega arith)

pub flag_back : (b : Bool) (n : ℕ) → flag_in (flag_word b + n * 256) ≡ b
flag_back b n = ap (λ (m : ℕ). flag_in (flag_word b + m)) (let e : n * 256 ≡ n * 128 * 2 = omega arith in e) ∙ flag_low b (n * 128)

pub framing_back : (f : Framing) → f.held < 4294967296 → framing_in (framing_words f) ≡ f
framing_back f h =
    let small = flag_small f.crc in
    let crc : flag_in (framing_word f) ≡ f.crc = flag_low f.crc f.held in
    let q : framing_word f / 2 ≡ f.held = omega arith in
    let held : framing_word f / 2 % 4294967296 ≡ f.held = ap (λ (n : ℕ). n % 4294967296) q ∙ omega arith in
    λ i. record { crc = crc i; held = held i }

pub window_back : (w : Window) → w.key < 256 → w.rights < 256 → w.place < 4294967296 → w.len < 4294967296 → window_in (window_words w) ≡ w
window_back w hk hr hp hl =
    let small = flag_small w.live in
    let whole : access_word w ≡ flag_word w.live + (w.key + w.rights * 256) * 256 = omega arith in
    let live : flag_in (access_word w) ≡ w.live = ap flag_in whole ∙ flag_back w.live (w.key + w.rights * 256) in
    let q₁ : access_word w / 256 ≡ w.key + w.rights * 256 = omega arith in
    let key : access_word w / 256 % 256 ≡ w.key = ap (λ (n : ℕ). n % 256) q₁ ∙ omega arith in
    let q₂ : access_word w / 65536 ≡ w.rights = omega arith in
    let rights : access_word w / 65536 % 256 ≡ w.rights = ap (λ (n : ℕ). n % 256) q₂ ∙ omega arith in
    let place = lower_pair w.place w.len hp in
    let len = upper_pair w.place w.len hp hl in
    λ i. record { live = live i; key = key i; rights = rights i; place = place i; len = len i; base = w.base }

-- a phase, of numbers below 256
pub phase_back : (p : Phase) → p.state < 256 → p.refusal.number < 256 → p.refusal.layer < 256 → p.refusal.etype < 256 → p.refusal.code < 256 → phase_in (phase_words p) ≡ p
phase_back p h₀ h₁ h₂ h₃ h₄ =
    let f = p.refusal in
    let q₁ : phase_word p / 256 ≡ f.number + f.layer * 256 + f.etype * 65536 + f.code * 16777216 = omega arith in
    let q₂ : phase_word p / 65536 ≡ f.layer + f.etype * 256 + f.code * 65536 = omega arith in
    let q₃ : phase_word p / 16777216 ≡ f.etype + f.code * 256 = omega arith in
    let q₄ : phase_word p / 4294967296 ≡ f.code = omega arith in
    let state : phase_word p % 256 ≡ p.state = omega arith in
    let number : phase_word p / 256 % 256 ≡ f.number = ap (λ (n : ℕ). n % 256) q₁ ∙ omega arith in
    let layer : phase_word p / 65536 % 256 ≡ f.layer = ap (λ (n : ℕ). n % 256) q₂ ∙ omega arith in
    let etype : phase_word p / 16777216 % 256 ≡ f.etype = ap (λ (n : ℕ). n % 256) q₃ ∙ omega arith in
    let code : phase_word p / 4294967296 % 256 ≡ f.code = ap (λ (n : ℕ). n % 256) q₄ ∙ omega arith in
    λ i. record { state = state i; refusal = record { number = number i; layer = layer i; etype = etype i; code = code i } }

-- a request, before other words
pub request_back : (q : ReadRequest) → q.sink_stag < 4294967296 → q.size < 4294967296 → q.source_stag < 4294967296 → request_in (request_words q []) 0 ≡ q
request_back q hk hz hc =
    let sink = lower_pair q.sink_stag q.source_stag hk in
    let source = upper_pair q.sink_stag q.source_stag hk hc in
    let size : lower_half q.size ≡ q.size = omega arith in
    λ i. record { sink_stag = sink i; sink_to = q.sink_to; size = size i; source_stag = source i; source_to = q.source_to }

-- reads are what their words say, where their requests are
pub reads_back : (r : Reads) → r.msn < 4294967296 → r.count < 4294967296 → requests_in (reads_words r) ≡ r.entries → reads_in (reads_words r) ≡ r
reads_back r hm hc entries =
    let msn = lower_pair r.msn r.count hm in
    let count = upper_pair r.msn r.count hm hc in
    λ i. record { msn = msn i; count = count i; entries = entries i }

-- sends are what their words say, where their buffers are
pub sends_back : (s : Sends) → s.msn < 4294967296 → s.opcode < 256 → s.taken < 4294967296 → s.buffers.count < 4294967296
    → sequence 8 (λ k. buffer_in (buffer_word (get_or s.buffers.entries k no_buffer))) ≡ s.buffers.entries → sends_in (sends_words s) ≡ s
sends_back s hm ho ht hc entries =
    let msn : lower_half (pair_word s.msn s.opcode) ≡ s.msn = omega arith in
    let q : pair_word s.msn s.opcode / 4294967296 ≡ s.opcode = omega arith in
    let opcode : pair_word s.msn s.opcode / 4294967296 % 256 ≡ s.opcode = ap (λ (n : ℕ). n % 256) q ∙ omega arith in
    let taken : lower_half (pair_word s.taken s.buffers.count) ≡ s.taken = omega arith in
    let count : upper_half (pair_word s.taken s.buffers.count) ≡ s.buffers.count = upper_pair s.taken s.buffers.count (omega arith) (omega arith) in
    λ i. record { msn = msn i; opcode = opcode i; taken = taken i; buffers = record { count = count i; entries = entries i } }
