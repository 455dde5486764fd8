-- `split` meets its contract: a word that is found joins those before it (`Split`).
use Rattle.std.proofs.Common.{◌≡◌, ◌<◌, refl, length, map, take, sym, ◌∙◌, arith, length-set}
use Rattle.std.proofs.lemmas.List.{map-append, take_more_set}
use Rattle.command.specs.Args.{words_of}
use Rattle.command.proofs.Split.{all_found, all_kept, found}
use Rattle.command.proofs.args.split.Goals as goal

pub returns-in_default : goal.returns-in_default
unfolding words_of
returns-in_default c =
    all_found c.args.line.now (map (λ r. r.now) (take c.loop-count.count c.loop-count.found)) _ _ c.loop-count.at c.loop-count.invariant.1 (sym c.next_word.ensures.word ∙ c.in_default.is)

pub loop-count-preserved : goal.loop-count-preserved
loop-count-preserved c =
    let room : c.loop-count.count < length c.loop-count.found = omega arith in (
      simp length-set c.loop-count.invariant.0,
      simp (take_more_set, map-append) (found c.args.line.now (map (λ r. r.now) (take c.loop-count.count c.loop-count.found)) _ c.loop-count.count c.loop-count.at c.in-Some.word (omega arith) c.loop-count.invariant.1 (sym c.next_word.ensures.word ∙ c.in-Some.is)),
    )

pub returns : goal.returns
unfolding words_of
returns c =
    let all : c.loop-count.count ≡ 11 = omega arith in
    all_kept c.args.line.now (map (λ r. r.now) (take 11 c.loop-count.found)) _ _ c.loop-count.at (rw all at c.loop-count.invariant.1) refl
