use Rattle.std.proofs.Common.{sym, subst, take, drop, List}
use Rattle.std.proofs.lemmas.List.{take-append-drop}
use Rattle.mc_base.specs.Stored.{Stored}
use Rattle.shared_words.specs.declared.view.Role.TheVariants as role
use Rattle.split_ring.specs.Ends.{AreHeld}
use Rattle.split_ring.proofs.HeldLemmas.{turned_held}
use Rattle.ring_tests.proofs.rings.turn.Goals as goal

pub returns-then-count-len : goal.returns-then-count-len
returns-then-count-len c = let l : List Stored = c.args.held.now.items in let n = c.args.count in
    subst (AreHeld role.Device c.args.device.now) (sym c.rotate_left.ensures.items) (turned_held role.Device c.args.device.now l (take n l) (drop n l) (sym (take-append-drop n l)) c.requires)
