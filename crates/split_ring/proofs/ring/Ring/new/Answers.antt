use Rattle.std.proofs.Common.{◌≡◌, ◌∙◌, ap, sym, subst, ℕ, List, length, arith}
use Rattle.std.specs.List.{All}
use Rattle.std.proofs.lemmas.List.{length-replicate}
use Rattle.std.proofs.lemmas.List.Elements.{All-map}
use Rattle.mc_base.specs.Stored.{Stored}
use Rattle.shared_words.specs.declared.view.HalfView.{HalfView}
use Rattle.shared_words.specs.Entry.{times, times_by, inside}
use Rattle.shared_words.specs.Slots.{numbers_from}
use Rattle.shared_words.specs.Start.{new_buffer}
use Rattle.shared_words.specs.Shown.{RingId, size_of}
use Rattle.shared_words.proofs.Beginning.{all_buffers}
use Rattle.split_ring.proofs.ring.Ring.new.Goals as goal

pub returns-clause-held : goal.returns-clause-held
returns-clause-held c = let e = c.in-Ok.ensures in let width : ℕ = c.args.length in let ns = numbers_from 0 c.args.size in record {
  numbers = λ x.
      let all = ap (λ (l : List Stored). times_by (λ (b : Stored). b.number) x l) e.buffers ∙ all_buffers width x c.args.size in
      let size = ap (λ (z : ℕ). inside z x) (ap size_of e.halves.0.same_ring ∙ e.table.1) in
      let taken = ap (λ (v : HalfView). times x v.taken) e.views.0 in let written = ap (λ (v : HalfView). times x v.written) e.views.0 in omega (arith, all, size, taken, written);
  wide = let same : width ≡ c.in-Ok.parts.1.ring.width = sym (ap (λ (r : RingId). r.width) e.halves.0.same_ring ∙ e.table.2) in
      subst (λ (bs : List Stored). All (λ (b : Stored). length b.bytes ≡ c.in-Ok.parts.1.ring.width) bs) (sym e.buffers)
      (All-map (λ (b : Stored). length b.bytes ≡ c.in-Ok.parts.1.ring.width) (new_buffer width) ns (λ k d h. length-replicate width 0 ∙ same));
}
