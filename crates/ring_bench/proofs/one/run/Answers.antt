use Rattle.std.proofs.Common.{◌≡◌, Option, Some, None, IfSome, ◌++◌, List}
use Rattle.std.specs.Prelude.{option_to_list}
use Rattle.mc_base.specs.Stored.{Stored}
use Rattle.shared_words.specs.declared.view.Role.TheVariants as role
use Rattle.split_ring.specs.Ends.{End, HoldsBuffer, AreHeld}
use Rattle.split_ring.proofs.HeldLemmas.{last_held}
use Rattle.ring_bench.proofs.one.run.Goals as goal

popped : (half : End) (bs more : List Stored) (r : Option Stored) → bs ≡ more ++ option_to_list r → AreHeld role.Driver half bs → IfSome r (λ (b : Stored). HoldsBuffer role.Driver half b)
popped half bs more None is held = tt
popped half bs more (Some b) is held = last_held role.Driver half bs more b is held

pub rounds_of-requires-clause-held : goal.rounds_of-requires-clause-held
rounds_of-requires-clause-held c = popped c.args.driver c.args.buffers.items c.pop-hand.new.self.items c.pop-hand.result c.pop-hand.ensures.items c.requires.held
