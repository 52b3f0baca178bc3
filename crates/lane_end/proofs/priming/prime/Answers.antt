use Rattle.std.proofs.Common.{◌≡◌, ◌∙◌, List, ◌++◌, length, sym, ap, arith}
use Rattle.mc_base.specs.Stored.{Stored}
use Rattle.shared_words.specs.Entry.{Entry}
use Rattle.split_ring.specs.Ends.{End}
use Rattle.lane_end.specs.Held.{numbers_of}
use Rattle.lane_end.specs.Entries.{numbers_in}
use Rattle.lane_end.specs.RingOpening.{whole}
use Rattle.lane_end.proofs.OpeningLemmas.{whole-numbers}
use Rattle.lane_end.proofs.PrimingLemmas.{all-fetched}
use Rattle.lane_end.proofs.priming.prime.Goals as goal

pub returns-clause-free : goal.returns-clause-free
returns-clause-free c =
    let m = c.meet.ensures in let f = c.fetch_all.ensures.fetched in let last = c.meet-2.ensures.fetched in let all = c.args.buffers.now.items in
    let written : c.meet.new.driver.written ≡ whole all =
    ap (λ (e : End). e.written) m.driver ∙ (ap (λ (e : End). e.written) c.offer_all.ensures.offered.driver ∙ ap (λ (e : End). e.written ++ whole all) c.requires.halves.0) in
    let taken : c.fetch_all.new.device.taken ≡ f.more =
    ap (λ (e : End). e.taken) f.device ∙ (ap (λ (e : End). e.taken ++ f.more) m.device ∙ ap (λ (e : End). e.taken ++ f.more) c.requires.halves.1) in
    let many = f.many in let count = ap (λ (l : List Entry). length l) taken in let size = c.len-size.ensures in
    let same : c.fetch_all.new.device.taken ≡ whole all = all-fetched c.meet.new.driver.written c.fetch_all.new.device.taken last.0 all written last.1 (omega (arith, many, count, size)) in
    f.added ∙ (ap (λ (l : List Stored). numbers_of l ++ numbers_in f.more) c.offer_all.ensures.empty ∙ (ap numbers_in (sym taken ∙ same) ∙ whole-numbers all))
