-- Where each group of the device's records stands in the block of words. src/layout.rt has the same numbers. A domain and a slot are taken by
-- their remainders, so that every number names a place.
use Rattle.std.specs.Prelude.{ℕ, ◌+◌, ◌*◌, ◌%◌}

-- the length of the store, then four domains of 236 words
abbrev pub block_words : ℕ
block_words = 945

abbrev pub domain_offset : ℕ → ℕ
domain_offset d = 1 + d % 4 * 236

-- a domain: its part, sixteen windows of 3 words, four streams of 46 words, its meter in 3
abbrev pub window_offset : ℕ → ℕ → ℕ
window_offset d i = domain_offset d + 1 + i % 16 * 3

abbrev pub stream_offset : ℕ → ℕ → ℕ
stream_offset d j = domain_offset d + 49 + j % 4 * 46

abbrev pub meter_offset : ℕ → ℕ
meter_offset d = domain_offset d + 233

-- a stream: its phase, its framing, its terminates, its sends in 10 words and its reads in 33
abbrev pub framing_offset : ℕ → ℕ → ℕ
framing_offset d j = stream_offset d j + 1

abbrev pub terminates_offset : ℕ → ℕ → ℕ
terminates_offset d j = stream_offset d j + 2

abbrev pub sends_offset : ℕ → ℕ → ℕ
sends_offset d j = stream_offset d j + 3

abbrev pub reads_offset : ℕ → ℕ → ℕ
reads_offset d j = stream_offset d j + 13
