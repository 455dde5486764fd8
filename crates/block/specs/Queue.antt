-- The queues of a stream in words: 10 for its sends, 33 for its reads, 1 for its terminates.
use Rattle.std.specs.Prelude.{ℕ, ◌+◌, ◌*◌, ◌/◌, ◌%◌, List, [], ◌∷◌, get_or}
use Rattle.memory.specs.Buffer.{no_buffer}
use Rattle.memory.specs.declared.buffer.Buffers.{Buffers}
use Rattle.rdmap.specs.Read.{no_read}
use Rattle.rdmap.specs.Sends.{current_buffer}
use Rattle.rdmap.specs.declared.read.ReadRequest.{ReadRequest}
use Rattle.rdmap.specs.declared.read.Reads.{Reads}
use Rattle.rdmap.specs.declared.sends.Sends.{Sends}
use Rattle.rdmap.specs.declared.terminates.Terminates.{Terminates}
use Rattle.block.specs.declared.reads.Tally.{Tally}
use Rattle.block.specs.declared.sends.Head.{Head}
use Rattle.block.specs.Words.{sequence, pair_word, lower_half, upper_half, buffer_in, buffer_word}

-- sends: the MSN and the opcode; the bytes taken and the count; the buffers
abbrev pub buffers_in : List ℕ → Buffers
buffers_in g = record { count = upper_half (get_or g 1 0); entries = sequence 8 (λ i. buffer_in (get_or g (2 + i) 0)) }

abbrev pub sends_in : List ℕ → Sends
sends_in g =
    record {
      msn = lower_half (get_or g 0 0);
      opcode = get_or g 0 0 / 4294967296 % 256;
      taken = lower_half (get_or g 1 0);
      buffers = buffers_in g;
    }

-- what the next segment of a Send asks of them
abbrev pub head_of : Sends → Head
head_of s =
    record {
      msn = s.msn;
      opcode = s.opcode;
      taken = s.taken;
      count = s.buffers.count;
      buffer = current_buffer s;
    }

abbrev pub sends_words : Sends → List ℕ
sends_words s =
    pair_word s.msn s.opcode ∷ pair_word s.taken s.buffers.count
    ∷ sequence 8 (λ i. buffer_word (get_or s.buffers.entries i no_buffer))

-- a request in the four words from at: both STags, the size, the sink's offset, the source's offset
abbrev pub request_in : List ℕ → ℕ → ReadRequest
request_in g at =
    record {
      sink_stag = lower_half (get_or g at 0);
      sink_to = get_or g (at + 2) 0;
      size = lower_half (get_or g (at + 1) 0);
      source_stag = upper_half (get_or g at 0);
      source_to = get_or g (at + 3) 0;
    }

abbrev pub stags_word : ReadRequest → ℕ
stags_word q = pair_word q.sink_stag q.source_stag

-- the words of a request and of four, before others
abbrev pub request_words : ReadRequest → List ℕ → List ℕ
request_words q rest = stags_word q ∷ q.size ∷ q.sink_to ∷ q.source_to ∷ rest

abbrev pub four_words : ReadRequest → ReadRequest → ReadRequest → ReadRequest → List ℕ → List ℕ
four_words a b c d rest = request_words a (request_words b (request_words c (request_words d rest)))

-- reads: the MSN and the count; the requests
abbrev pub requests_in : List ℕ → List ReadRequest
requests_in g = sequence 8 (λ i. request_in g (1 + i * 4))

abbrev pub reads_in : List ℕ → Reads
reads_in g = record { msn = lower_half (get_or g 0 0); count = upper_half (get_or g 0 0); entries = requests_in g }

-- their next MSN, and how many wait
abbrev pub tally_of : Reads → Tally
tally_of r = record { msn = r.msn; count = r.count }

abbrev pub waiting_read : Reads → ℕ → ReadRequest
waiting_read r i = get_or r.entries i no_read

abbrev pub reads_words : Reads → List ℕ
reads_words r =
    pair_word r.msn r.count
    ∷ four_words (waiting_read r 0) (waiting_read r 1) (waiting_read r 2) (waiting_read r 3)
    (four_words (waiting_read r 4) (waiting_read r 5) (waiting_read r 6) (waiting_read r 7) [])

-- terminates: the MSN
abbrev pub terminates_in : List ℕ → Terminates
terminates_in g = record { msn = lower_half (get_or g 0 0) }

abbrev pub terminates_words : Terminates → List ℕ
terminates_words t = t.msn ∷ []
