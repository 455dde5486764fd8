-- The words found so far, and those from there on, are the line's words.
use Rattle.std.proofs.Common.{◌≡◌, ◌-◌, ◌++◌, length, map, take}
use Rattle.script.specs.Word.{words_from}
use Rattle.command.specs.Args.{line_words}
use Rattle.command.proofs.args.split.Given as goal

abbrev pub invariant-loop-count : goal.invariant-loop-count
invariant-loop-count l = (length l.found ≡ 11) × (map (λ r. r.now) (take l.count l.found) ++ words_from (11 - l.count) l.line l.at ≡ line_words l.line)
