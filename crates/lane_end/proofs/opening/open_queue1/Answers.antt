use Rattle.std.proofs.Common.{◌∙◌, ap, sym, subst, arith}
use Rattle.std.specs.VecDeque.{deque_capacity}
use Rattle.shared_words.specs.declared.view.Role.TheVariants.{Driver}
use Rattle.split_ring.specs.Ends.{End, IsSound}
use Rattle.lane_end.specs.KeptRing.{KeepsSender}
use Rattle.lane_end.proofs.OpeningLemmas.{queue1-sends, queue1-is}
use Rattle.lane_end.proofs.WideLemmas.{new_wide}
use Rattle.lane_end.proofs.opening.open_queue1.Goals as goal

pub invariant_of-send : goal.invariant_of-send
invariant_of-send c =
    let on = c.args.on.now in let cap = deque_capacity c.from_vec.result in let q = c.requires.room in let v = c.from_vec.ensures.capacity in
    record {
      keeps = subst (KeepsSender on cap) (sym (queue1-is on.ring c.args.driver c.from_vec.result.items c.requires.halves.0 (c.from_vec.ensures.items ∙ c.requires.buffers)))
          (queue1-sends on c.requires.width cap c.requires.size (omega (arith, q, v)) (subst (IsSound Driver) c.requires.halves.0 c.requires.sound.0));
      wide = new_wide c.args.driver on.ring c.from_vec.result.items (ap (λ (h : End). h.ring) c.requires.halves.0) (c.from_vec.ensures.items ∙ c.requires.buffers);
    }

pub returns-clause-sender : goal.returns-clause-sender
returns-clause-sender c = queue1-is c.args.on.now.ring c.args.driver c.from_vec.result.items c.requires.halves.0 (c.from_vec.ensures.items ∙ c.requires.buffers)
