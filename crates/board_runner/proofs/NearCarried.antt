-- What a domain did and knows at its ends after one of its links was carried.
use Rattle.std.proofs.Common.{◌≡◌, ◌≢◌, ℕ, ◌≤◌, Bool, true, false, cond, List, [], ◌∷◌, ◌++◌, length, sum, Option, Some, refl, sym, ap, ◌∙◌, subst, arith, eqb-true, ne_eqb}
use Rattle.std.specs.Prelude.{◌==◌}
use Rattle.std.proofs.lemmas.List.{map-append}
use Rattle.lane_end.specs.Halves.{IsRingSend, IsRingRecv}
use Rattle.lane_end.specs.AnyLane.{EndsHaveMet}
use Rattle.lane_end.specs.AnyLaneLaws.{over-either}
use Rattle.lane_end.specs.RingLane.{HaveMet}
use Rattle.lane_end.specs.RingSender.{RingSender, put_by}
use Rattle.lane_end.specs.RingReceiver.{RingReceiver, taken_by, given_entries}
use Rattle.lane_end.specs.Entries.{frames_in}
use Rattle.lane_end.specs.declared.any.AnySend.{AnySend}
use Rattle.lane_end.specs.declared.any.AnyRecv.{AnyRecv}
use Rattle.board_model.specs.Lists.{IsPrefix}
use Rattle.board_model.proofs.MessageAlls.{found-passes}
use Rattle.board_model.proofs.MessageLists.{changed_first, changed-position}
use Rattle.domain_core.specs.declared.Ends.TheVariants.{Own, Linked}
use Rattle.domain_core.specs.Carrying.{AnyLink, LinksMeet, leads_to, link_to, with_link}
use Rattle.domain_core.specs.Opening.{links_in}
use Rattle.domain_core.proofs.Carries.{link-with}
use Rattle.board_runner.specs.Near.{Near, SentNear, GotNear, RunEnds, sent_by, got_by, sent_near, got_near, IsLinkTo, frame_in, near_to, near_among, EndsMatch}
use Rattle.board_runner.specs.Carried.{IsTrue, DidNothing}
use Rattle.board_runner.proofs.NearEnds.{contents, loads-frames}

-- ---- a lane

-- the ends of a lane met: each knows of all that the other did, and what it knew before was true. Nothing was done
record LaneMet (s : SentNear) (r : GotNear) (s' : SentNear) (r' : GotNear) : Type 0 where
  put : s'.put ≡ s.put
  back : s'.back ≡ s.back
  back_known : s'.known ≡ r.given
  back_true : s.known ≤ r.given
  taken : r'.taken ≡ r.taken
  given : r'.given ≡ r.given
  come_known : r'.known ≡ length s.put
  come_true : r.known ≤ length s.put
  first : IsPrefix r.taken s.put

ring-met : (s : RingSender) (r : RingReceiver) (s' : RingSender) (r' : RingReceiver) → HaveMet s r s' r' → LaneMet (sent_by s) (got_by r) (sent_by s') (got_by r')
ring-met s r s' r' met =
    let taken : frames_in r'.half.taken ≡ frames_in r.half.taken = ap (λ (x : RingReceiver). frames_in x.half.taken) met.receives in
    let put : put_by s' ≡ put_by s = ap put_by met.sends in
    let front : put_by s' ≡ frames_in r'.half.taken ++ contents met.lane.taken.0
    = sym (loads-frames s'.half.written) ∙ ap contents met.lane.taken.1 ∙ map-append frame_in (taken_by r') met.lane.taken.0 ∙ ap (λ (fs : List (List ℕ)). fs ++ contents met.lane.taken.0) (loads-frames r'.half.taken) in
    record {
      put = put;
      back = ap (λ (x : RingSender). sum x.half.looks) met.sends;
      back_known = met.all_back;
      back_true = met.back;
      taken = taken;
      given = ap (λ (x : RingReceiver). length (given_entries x)) met.receives;
      come_known = met.all_come;
      come_true = met.come;
      first = (contents met.lane.taken.0, sym put ∙ front ∙ ap (λ (fs : List (List ℕ)). fs ++ contents met.lane.taken.0) taken);
    }

lane-met : (a : AnySend) (b : AnyRecv) (c : AnySend) (d : AnyRecv) → EndsHaveMet a b c d → LaneMet (sent_near a) (got_near b) (sent_near c) (got_near d)
lane-met = over-either (λ a b c d. LaneMet (sent_near a) (got_near b) (sent_near c) (got_near d)) ring-met ring-met

rings-met : (a : AnySend) (b : AnyRecv) (c : AnySend) (d : AnyRecv) → EndsHaveMet a b c d → IsRingSend c × IsRingRecv d
rings-met = over-either (λ a b c d. IsRingSend c × IsRingRecv d) (λ s r s' r' met. (tt, tt)) (λ s r s' r' met. (tt, tt))

-- ---- a link

-- by what was done and known here, and there
pub record Meets (here far here' : Near) : Type 0 where
  pub did : DidNothing here here'
  pub come : here'.got.known ≡ length far.sent.put
  pub back : here'.sent.known ≡ far.got.given
  pub truly : IsTrue here far

pub links-met : (a b a' b' : AnyLink) → LinksMeet EndsHaveMet a b a' b' → Meets (near_to (Linked a)) (near_to (Linked b)) (near_to (Linked a'))
links-met a b a' b' met =
    let there = lane-met a.send b.recv a'.send b'.recv met.there in
    let back = lane-met b.send a.recv b'.send a'.recv met.back in
    record {
      did = record {
        put = there.put;
        back = there.back;
        taken = back.taken;
        given = back.given;
        knows = record { come = omega (arith, back.come_true, back.come_known); back = omega (arith, there.back_true, there.back_known) };
      };
      come = back.come_known;
      back = there.back_known;
      truly = record { taken = back.first; come = back.come_true; back = there.back_true };
    }

pub links-other : (a b a' b' : AnyLink) → LinksMeet EndsHaveMet a b a' b' → LinksMeet EndsHaveMet b a b' a'
links-other a b a' b' met = record { there = met.back; back = met.there; one_peer = met.two_peer; one_size = met.two_size; two_peer = met.one_peer; two_size = met.one_size }

pub link-met : (a b a' b' : AnyLink) (m : ℕ) → a.peer ≡ m → LinksMeet EndsHaveMet a b a' b' → IsLinkTo m a'
link-met a b a' b' m peer met = record { peer = met.one_peer ∙ peer; sends = (rings-met a.send b.recv a'.send b'.recv met.there).0; receives = (rings-met b.send a.recv b'.send a'.recv met.back).1 }

-- ---- the link to a peer

pub link-peer : (n : ℕ) (es : List RunEnds) (a : AnyLink) → link_to n es ≡ Some a → a.peer ≡ n
link-peer n es a at = eqb-true a.peer n (found-passes (λ (l : AnyLink). l.peer == n) (links_in es) a at)

-- what is near towards a peer is at the link to it
pub linked-near : (n m : ℕ) (ps : List ℕ) (es : List RunEnds) (a : AnyLink) → m ≢ n → EndsMatch n ps es → link_to m es ≡ Some a → near_among ps es m ≡ near_to (Linked a)
linked-near n m [] [] a other matched at = absurd cc
linked-near n m [] (e ∷ es) a other matched at = absurd matched
linked-near n m (p ∷ ps) [] a other matched at = absurd matched
linked-near n m (p ∷ ps) (Own l ∷ es) a other matched at =
    ap (λ (b : Bool). cond b (near_to (Own l)) (near_among ps es m)) (ne_eqb p m (λ is. other (sym is ∙ matched.0))) ∙ linked-near n m ps es a other matched.1 at
linked-near n m (p ∷ ps) (Linked l ∷ es) a other matched at =
    ap (λ (q : ℕ). cond (q == m) (near_to (Linked l)) (near_among ps es m)) (sym matched.1.peer) ∙ go (l.peer == m) at (linked-near n m ps es a other matched.2)
  where
    go : (b : Bool) → cond b (Some l) (link_to m es) ≡ Some a → (link_to m es ≡ Some a → near_among ps es m ≡ near_to (Linked a)) → cond b (near_to (Linked l)) (near_among ps es m) ≡ near_to (Linked a)
    go true here later = let is : l ≡ a = cc in ap (λ (x : AnyLink). near_to (Linked x)) is
    go false there later = later there

-- another link to the peer in its place
module _ (m : ℕ) (c : AnyLink) (to : IsLinkTo m c) where
  abbrev first : List RunEnds → List RunEnds
  first es = changed_first (leads_to m) (λ e. Linked c) es

  first-is : (es : List RunEnds) → with_link m c es ≡ first es
  first-is es = changed-position (leads_to m) (λ e. Linked c) es

  match-first : (n : ℕ) (ps : List ℕ) (es : List RunEnds) → EndsMatch n ps es → EndsMatch n ps (first es)
  match-first n [] [] matched = tt
  match-first n [] (e ∷ es) matched = absurd matched
  match-first n (p ∷ ps) [] matched = absurd matched
  match-first n (p ∷ ps) (Own l ∷ es) matched = (matched.0, match-first n ps es matched.1)
  match-first n (p ∷ ps) (Linked l ∷ es) matched = go (l.peer == m) refl (match-first n ps es matched.2)
    where
      go : (b : Bool) → (l.peer == m) ≡ b → EndsMatch n ps (first es) → EndsMatch n (p ∷ ps) (cond b (Linked c ∷ es) (Linked l ∷ first es))
      go true e rest = (matched.0, subst (λ (q : ℕ). IsLinkTo q c) (sym (eqb-true l.peer m e) ∙ matched.1.peer) to, matched.2)
      go false e rest = (matched.0, matched.1, rest)

  pub match-carried : (n : ℕ) (ps : List ℕ) (es : List RunEnds) → EndsMatch n ps es → EndsMatch n ps (with_link m c es)
  match-carried n ps es matched = subst (EndsMatch n ps) (sym (first-is es)) (match-first n ps es matched)

  -- ---- the others

  link-first_other : (q : ℕ) → q ≢ m → (es : List RunEnds) → link_to q (first es) ≡ link_to q es
  link-first_other q other [] = refl
  link-first_other q other (Own l ∷ es) = link-first_other q other es
  link-first_other q other (Linked l ∷ es) = go (l.peer == m) refl (link-first_other q other es)
    where
      go : (b : Bool) → (l.peer == m) ≡ b → link_to q (first es) ≡ link_to q es → link_to q (cond b (Linked c ∷ es) (Linked l ∷ first es)) ≡ link_to q (Linked l ∷ es)
      go true e rest =
          let past : (l.peer == q) ≡ false = ne_eqb l.peer q (λ is. other (sym is ∙ eqb-true l.peer m e)) in
          let new_past : (c.peer == q) ≡ false = ne_eqb c.peer q (λ is. other (sym is ∙ to.peer)) in
          ap (λ (x : Bool). cond x (Some c) (link_to q es)) new_past ∙ sym (ap (λ (x : Bool). cond x (Some l) (link_to q es)) past)
      go false e rest = ap (λ (o : Option AnyLink). cond (l.peer == q) (Some l) o) rest

  pub link-other : (q : ℕ) → q ≢ m → (es : List RunEnds) → link_to q (with_link m c es) ≡ link_to q es
  link-other q other es = ap (link_to q) (first-is es) ∙ link-first_other q other es

  near-first : (n q : ℕ) → q ≢ m → (ps : List ℕ) (es : List RunEnds) → EndsMatch n ps es → near_among ps (first es) q ≡ near_among ps es q
  near-first n q other [] [] matched = refl
  near-first n q other [] (e ∷ es) matched = absurd matched
  near-first n q other (p ∷ ps) [] matched = refl
  near-first n q other (p ∷ ps) (Own l ∷ es) matched = ap (λ (x : Near). cond (p == q) (near_to (Own l)) x) (near-first n q other ps es matched.1)
  near-first n q other (p ∷ ps) (Linked l ∷ es) matched = go (l.peer == m) refl (near-first n q other ps es matched.2)
    where
      go : (b : Bool) → (l.peer == m) ≡ b → near_among ps (first es) q ≡ near_among ps es q → near_among (p ∷ ps) (cond b (Linked c ∷ es) (Linked l ∷ first es)) q ≡ near_among (p ∷ ps) (Linked l ∷ es) q
      go true e rest =
          let past : (p == q) ≡ false = ne_eqb p q (λ is. other (sym is ∙ sym matched.1.peer ∙ eqb-true l.peer m e)) in
          ap (λ (x : Bool). cond x (near_to (Linked c)) (near_among ps es q)) past ∙ sym (ap (λ (x : Bool). cond x (near_to (Linked l)) (near_among ps es q)) past)
      go false e rest = ap (λ (x : Near). cond (p == q) (near_to (Linked l)) x) rest

  pub near-other : (n q : ℕ) → q ≢ m → (ps : List ℕ) (es : List RunEnds) → EndsMatch n ps es → near_among ps (with_link m c es) q ≡ near_among ps es q
  near-other n q other ps es matched = ap (λ (xs : List RunEnds). near_among ps xs q) (first-is es) ∙ near-first n q other ps es matched

  -- what is near towards the peer is at the new link
  pub near-own : (n : ℕ) → m ≢ n → (ps : List ℕ) (es : List RunEnds) (a : AnyLink) → EndsMatch n ps es → link_to m es ≡ Some a → near_among ps (with_link m c es) m ≡ near_to (Linked c)
  near-own n other ps es a matched at = linked-near n m ps (with_link m c es) c other (match-carried n ps es matched) (link-with m es a c at (to.peer ∙ sym (link-peer m es a at)))
