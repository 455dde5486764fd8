-- A block of zeros holds the empty device.
use Rattle.std.proofs.Common.{rules, ◌≡◌, ap, ◌∙◌, ℕ, length, replicate}
use Rattle.block.proofs.Zeros.{zeros-all, rnic-zeros}
use Rattle.block.proofs.device.clear_block.Goals as goal

pub returns : goal.returns
returns c =
    let words : length c.args.words.now ≡ 945 = search rules in
    rnic-zeros c.fill.new.self (zeros-all c.fill.new.self 945 (c.fill.ensures.after (search rules) ∙ ap (λ (k : ℕ). replicate k 0) words))
