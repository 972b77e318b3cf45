use Rattle.std.proofs.Common.{rules, ◌∙◌, refl, ℕ, arith}
use Rattle.std.proofs.lemmas.Iterator.Search.{all_from_yields_List}
use Rattle.std.proofs.lemmas.Iterator.{YieldsList-from_range}
use Rattle.laws.specs.Range.{all_range}
use Rattle.block.specs.Check.{sound, block_at, sound_to}
use Rattle.block.proofs.all_sound.Goals as goal

pub returns : goal.returns
unfolding sound_to
returns c =
    let holds = λ (k : ℕ). sound (block_at c.args.file.now k) k in
    let numbers = YieldsList-from_range 0 c.args.n c.args.n refl (omega arith) in
    all_from_yields_List holds _ _ _ c.all.ensures.ran numbers (λ k b q r. search rules) ∙ all_range holds c.args.n
