-- Numbers and small records packed into words, and a list by its elements. Any word decodes: a number is taken at its field's width.
use Rattle.std.specs.Prelude.{ℕ, zero, suc, ◌+◌, ◌*◌, ◌/◌, ◌%◌, Bool, true, false, List, [], ◌∷◌, get_or, eqb}
use Rattle.memory.specs.declared.buffer.Buffer.{Buffer}
use Rattle.memory.specs.declared.part.Part.{Part}
use Rattle.memory.specs.declared.window.Window.{Window}

-- f 0, f 1, .. : n elements
abbrev pub sequence : {A : Type 0} → ℕ → (ℕ → A) → List A
sequence zero f = []
sequence (suc n) f = f 0 ∷ sequence n (λ i. f (suc i))

-- two numbers of 32 bits in a word, and each of them
abbrev pub pair_word : ℕ → ℕ → ℕ
pair_word lower_half upper_half = lower_half + upper_half * 4294967296

abbrev pub lower_half : ℕ → ℕ
lower_half x = x % 4294967296

abbrev pub upper_half : ℕ → ℕ
upper_half x = x / 4294967296 % 4294967296

-- a flag in a word, and the flag in a word's lowest bit
abbrev pub flag_word : Bool → ℕ
flag_word true = 1
flag_word false = 0

abbrev pub flag_in : ℕ → Bool
flag_in x = eqb (x % 2) 1

-- a domain's part in one word
abbrev pub part_in : List ℕ → Part
part_in g = record { start = lower_half (get_or g 0 0); end = upper_half (get_or g 0 0) }

abbrev pub part_words : Part → List ℕ
part_words p = pair_word p.start p.end ∷ []

-- a buffer in one word
abbrev pub buffer_in : ℕ → Buffer
buffer_in x = record { start = lower_half x; len = upper_half x }

abbrev pub buffer_word : Buffer → ℕ
buffer_word b = pair_word b.start b.len

-- a window in three words: flag, key and rights; place and length; base
abbrev pub window_in : List ℕ → Window
window_in g =
    record {
      live = flag_in (get_or g 0 0);
      key = get_or g 0 0 / 256 % 256;
      rights = get_or g 0 0 / 65536 % 256;
      place = lower_half (get_or g 1 0);
      len = upper_half (get_or g 1 0);
      base = get_or g 2 0;
    }

abbrev pub access_word : Window → ℕ
access_word w = flag_word w.live + w.key * 256 + w.rights * 65536

abbrev pub window_words : Window → List ℕ
window_words w = access_word w ∷ pair_word w.place w.len ∷ w.base ∷ []
