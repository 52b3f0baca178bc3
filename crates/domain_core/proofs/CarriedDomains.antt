-- Two domains whose insides were carried, and what contracts see of them.
use Rattle.std.proofs.Common.{◌≡◌, ap, ◌∙◌, sym, subst}
use Rattle.domain_parts.specs.declared.ends.Ends.{Ends}
use Rattle.domain_parts.specs.Carried.{AreJoinedEnds, EndsMeet, MayMeet, FirstMeet}
use Rattle.domain_parts.specs.Carrying.{AreLinked, Carries, leads_to}
use Rattle.domain_parts.specs.DomainView.{DomainView}
use Rattle.domain_parts.specs.Parts.{Holding, shown, state_of}
use Rattle.domain_parts.proofs.Carries.{ends-carry, linked-carried, linked-may}

module _ {S R : Type 0} (one two : Holding (Ends S R)) (d e : DomainView (Ends S R)) (one_is : shown one ≡ d) (two_is : shown two ≡ e) where
  pub linked-inside : (AreOne : S → R → Type 0) → AreLinked AreOne d.state.number e.state.number d.ends e.ends → MayMeet leads_to (AreJoinedEnds AreOne) (state_of one.parts).number (state_of two.parts).number one.ends two.ends
  linked-inside AreOne l =
      subst (λ (x : DomainView (Ends S R)). MayMeet leads_to (AreJoinedEnds AreOne) x.state.number (state_of two.parts).number x.ends two.ends) (sym one_is)
      (subst (λ (y : DomainView (Ends S R)). MayMeet leads_to (AreJoinedEnds AreOne) d.state.number y.state.number d.ends y.ends) (sym two_is) (linked-may AreOne d.state.number e.state.number d.ends e.ends l))

  module _ (Meet : S → R → S → R → Type 0) (one' two' : Holding (Ends S R)) (met : FirstMeet leads_to (EndsMeet Meet) (state_of one.parts).number (state_of two.parts).number one.ends two.ends one'.ends two'.ends) where
    pub carried-inside : Carries Meet d.state.number e.state.number d.ends e.ends one'.ends two'.ends
    carried-inside =
        subst (λ (x : DomainView (Ends S R)). Carries Meet x.state.number e.state.number x.ends e.ends one'.ends two'.ends) one_is
        (subst (λ (y : DomainView (Ends S R)). Carries Meet (state_of one.parts).number y.state.number one.ends y.ends one'.ends two'.ends) two_is
        (ends-carry Meet (state_of one.parts).number (state_of two.parts).number one.ends two.ends one'.ends two'.ends met))

    pub still-linked : (AreOne : S → R → Type 0) → ((s : S) (r : R) (s' : S) (r' : R) → Meet s r s' r' → AreOne s r → AreOne s' r') → AreLinked AreOne d.state.number e.state.number d.ends e.ends → one' ≡ record one { ends = one'.ends } → two' ≡ record two { ends = two'.ends }
        → AreLinked AreOne (state_of one'.parts).number (state_of two'.parts).number one'.ends two'.ends
    still-linked AreOne still l one_keeps two_keeps =
        let one_number = ap (λ (h : Holding (Ends S R)). (state_of h.parts).number) one_keeps ∙ ap (λ (x : DomainView (Ends S R)). x.state.number) one_is in
        let two_number = ap (λ (h : Holding (Ends S R)). (state_of h.parts).number) two_keeps ∙ ap (λ (x : DomainView (Ends S R)). x.state.number) two_is in
        subst (λ n. AreLinked AreOne n (state_of two'.parts).number one'.ends two'.ends) (sym one_number)
        (subst (λ n. AreLinked AreOne d.state.number n one'.ends two'.ends) (sym two_number)
        (linked-carried Meet AreOne still d.state.number e.state.number d.ends e.ends one'.ends two'.ends l carried-inside))

-- all else of a domain stays
pub kept-inside : {S R : Type 0} (one one' : Holding (Ends S R)) (d : DomainView (Ends S R)) → shown one ≡ d → one' ≡ record one { ends = one'.ends } → shown one' ≡ record d { ends = one'.ends }
kept-inside {S} {R} one one' d is keeps = ap shown keeps ∙ ap (λ (x : DomainView (Ends S R)). record x { ends = one'.ends }) is
