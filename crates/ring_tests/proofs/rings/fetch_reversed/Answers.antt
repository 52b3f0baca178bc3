use Rattle.std.proofs.Common.{◌≡◌, ◌∙◌, ap, sym, subst, inl, inr, ◌∷◌, List, Bool, true, cond, Some}
use Rattle.std.specs.Prelude.{is_ok}
use Rattle.mc_base.specs.Stored.{Stored}
use Rattle.shared_words.specs.declared.view.Role.TheVariants as role
use Rattle.shared_words.specs.Entry.{Entry}
use Rattle.split_ring.specs.Ends.{End, TakesNext, AreHeld}
use Rattle.split_ring.proofs.HeldLemmas.{fronted_held}
use Rattle.ring_tests.proofs.rings.fetch_reversed.Goals as goal

taken_ring : (old new : End) (e : Entry) → TakesNext old (Some e) new → new.ring ≡ old.ring
taken_ring old new e (inl (left, is)) = ap (λ (n : End). n.ring) is
taken_ring old new e (inr (none_left, (n, some_shown, is))) = ap (λ (m : End). m.ring) is

pushed : (new bs : List Stored) (b : Stored) (went : Bool) → new ≡ cond went (b ∷ bs) bs → went ≡ true → new ≡ b ∷ bs
pushed new bs b went is said = is ∙ ap (λ (g : Bool). cond g (b ∷ bs) bs) said

pub loop-preserved : goal.loop-preserved
loop-preserved c = let inv = c.loop.invariant in let e : Entry = (c.in-Some.buffer, c.in-Some.field-0-1) in let bs : List Stored = c.loop.held.items in
    let items : c.push_front.new.self.items ≡ c.in-Some.buffer ∷ c.loop.held.items = pushed c.push_front.new.self.items bs c.in-Some.buffer (is_ok c.push_front.result) c.push_front.ensures.items c.if-is_err.ensures.negation in record {
      ring = taken_ring c.loop.device c.fetch.new.self e c.in-Some.ensures.fetched ∙ inv.ring;
      held = subst (AreHeld role.Device c.fetch.new.self) (sym items) (fronted_held role.Device c.loop.device c.fetch.new.self bs e inv.sound c.in-Some.ensures.fetched inv.held c.in-Some.ensures.held.1);
      sound = c.fetch.ensures.sound;
    }
