-- A stream of the block: its groups loaded and stored.
use Rattle.std.specs.Prelude.{ℕ, ◌+◌, ◌*◌, ◌/◌, ◌%◌, List, [], ◌∷◌, ◌++◌, get_or}
use Rattle.wire.specs.Wire.{part, put}
use Rattle.rdmap.specs.declared.framing.Framing.{Framing}
use Rattle.rdmap.specs.declared.phase.Phase.{Phase}
use Rattle.rdmap.specs.declared.read.Reads.{Reads}
use Rattle.rdmap.specs.declared.sends.Sends.{Sends}
use Rattle.rdmap.specs.declared.stream.Stream.{Stream}
use Rattle.rdmap.specs.declared.terminates.Terminates.{Terminates}
use Rattle.block.specs.Layout.{stream_offset, framing_offset, terminates_offset, sends_offset, reads_offset}
use Rattle.block.specs.Words.{flag_in, flag_word}
use Rattle.block.specs.Queue.{sends_in, sends_words, reads_in, reads_words, terminates_in, terminates_words}

-- a phase in one word: the state, then the refusal's four numbers, 8 bits each
abbrev pub phase_in : List ℕ → Phase
phase_in g =
    record {
      state = get_or g 0 0 % 256;
      refusal =
          record {
            number = get_or g 0 0 / 256 % 256;
            layer = get_or g 0 0 / 65536 % 256;
            etype = get_or g 0 0 / 16777216 % 256;
            code = get_or g 0 0 / 4294967296 % 256;
          };
    }

abbrev pub phase_word : Phase → ℕ
phase_word p =
    p.state + p.refusal.number * 256 + p.refusal.layer * 65536 + p.refusal.etype * 16777216
    + p.refusal.code * 4294967296

abbrev pub phase_words : Phase → List ℕ
phase_words p = phase_word p ∷ []

-- framing in one word: whether the CRC is on, and above it how many bytes are held, 32 bits
abbrev pub framing_in : List ℕ → Framing
framing_in g = record { crc = flag_in (get_or g 0 0); held = get_or g 0 0 / 2 % 4294967296 }

abbrev pub framing_word : Framing → ℕ
framing_word f = flag_word f.crc + f.held * 2

abbrev pub framing_words : Framing → List ℕ
framing_words f = framing_word f ∷ []

-- ---- the groups of the stream of a domain's slot

unfoldable pub loaded_phase : List ℕ → ℕ → ℕ → Phase
loaded_phase w d j = phase_in (part w (stream_offset d j) 1)

unfoldable pub loaded_framing : List ℕ → ℕ → ℕ → Framing
loaded_framing w d j = framing_in (part w (framing_offset d j) 1)

unfoldable pub loaded_terminates : List ℕ → ℕ → ℕ → Terminates
loaded_terminates w d j = terminates_in (part w (terminates_offset d j) 1)

unfoldable pub loaded_sends : List ℕ → ℕ → ℕ → Sends
loaded_sends w d j = sends_in (part w (sends_offset d j) 10)

unfoldable pub loaded_reads : List ℕ → ℕ → ℕ → Reads
loaded_reads w d j = reads_in (part w (reads_offset d j) 33)

unfoldable pub loaded_stream : List ℕ → ℕ → ℕ → Stream
loaded_stream w d j =
    record {
      phase = loaded_phase w d j;
      framing = loaded_framing w d j;
      sends = loaded_sends w d j;
      reads = loaded_reads w d j;
      terminates = loaded_terminates w d j;
    }

-- ---- the block with one of them exchanged

abbrev pub stored_phase : List ℕ → ℕ → ℕ → Phase → List ℕ
stored_phase w d j p = put w (stream_offset d j) (phase_words p)

abbrev pub stored_framing : List ℕ → ℕ → ℕ → Framing → List ℕ
stored_framing w d j f = put w (framing_offset d j) (framing_words f)

abbrev pub stored_terminates : List ℕ → ℕ → ℕ → Terminates → List ℕ
stored_terminates w d j t = put w (terminates_offset d j) (terminates_words t)

abbrev pub stored_sends : List ℕ → ℕ → ℕ → Sends → List ℕ
stored_sends w d j s = put w (sends_offset d j) (sends_words s)

abbrev pub stored_reads : List ℕ → ℕ → ℕ → Reads → List ℕ
stored_reads w d j r = put w (reads_offset d j) (reads_words r)

-- all of them
abbrev pub stream_words : Stream → List ℕ
stream_words s =
    phase_words s.phase ++ (framing_words s.framing ++ (terminates_words s.terminates ++ (sends_words s.sends ++ reads_words s.reads)))

abbrev pub stored_stream : List ℕ → ℕ → ℕ → Stream → List ℕ
stored_stream w d j s = put w (stream_offset d j) (stream_words s)
