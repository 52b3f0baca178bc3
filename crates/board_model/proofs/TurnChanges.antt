-- What a turn may change: items come or are lost, names are known and found, channels change, replies are owed, frames are shown and taken, and buffers are used and come back.
use Rattle.board_model.specs.Parts.{Came, came_from, said_from}
use Rattle.std.proofs.Common.{◌≡◌, ℕ, List, [], ◌∷◌, None, refl, sym, ap, ◌∙◌, subst}
use Rattle.std.specs.List.{AllByRecursion}
use Rattle.mc_base.specs.Reading.{Reading}
use Rattle.board_model.specs.Journal.{Visit, Taken}
use Rattle.board_model.specs.State.{DomainState}
use Rattle.board_model.specs.Change.{Change, channel_set, item_queued, item_handed, item_lost, waiting_ended, name_found, connect_settled, reply_owed, owed_put, buffers_back, frames_shown, frame_taken, names_known, changed, changed_all}
use Rattle.board_model.specs.TakenFrames.{Row, row_from}
use Rattle.board_model.specs.Deeds.{takes, after_deed, taken_change}
use Rattle.board_model.specs.Turn.{after_visit, after_turn}
use Rattle.board_model.proofs.LaneRows.{Deals, stays, strays, awaits, learns, forgets, hands, queues, loses, rejects, accepts, acts, acting-all, row-deals}
use Rattle.board_model.proofs.VisitLooks.{after_looks, after_takes, visit-after, looks-keep}

abbrev pub IsOfTurn : Change → Type 0
IsOfTurn (item_queued a i) = Unit {0}
IsOfTurn (item_handed a i) = Unit {0}
IsOfTurn (item_lost a i) = Unit {0}
IsOfTurn (channel_set a c) = Unit {0}
IsOfTurn (waiting_ended a word) = Unit {0}
IsOfTurn (name_found n a) = Unit {0}
IsOfTurn (connect_settled n o) = Unit {0}
IsOfTurn (reply_owed n r) = Unit {0}
IsOfTurn (owed_put n) = Unit {0}
IsOfTurn (buffers_back n count) = Unit {0}
IsOfTurn (frames_shown n count) = Unit {0}
IsOfTurn (frame_taken n part names) = Unit {0}
IsOfTurn (names_known n names) = Unit {0}
IsOfTurn other = ⊥

-- what each of these keeps, a turn keeps
module _ {X : Type 0} (f : DomainState → X) (same : (s : DomainState) (c : Change) → IsOfTurn c → f (changed s c) ≡ f s) where
  changes_same : (s : DomainState) (cs : List Change) → AllByRecursion IsOfTurn cs → f (changed_all s cs) ≡ f s
  changes_same s [] are = refl
  changes_same s (c ∷ cs) are = changes_same (changed s c) cs are.1 ∙ same s c are.0

  row_of_turn : (s : DomainState) (peer : ℕ) (name : Came) (frame : Reading) (r : Row) → Deals s peer name frame r → AllByRecursion IsOfTurn r.happens
  row_of_turn s peer name frame r (stays is gives) = subst (AllByRecursion IsOfTurn) (sym is) tt
  row_of_turn s peer name frame r (strays source at q says none is word) = subst (AllByRecursion IsOfTurn) (sym is) tt
  row_of_turn s peer name frame r (awaits source at q says some is word) = subst (AllByRecursion IsOfTurn) (sym is) tt
  row_of_turn s peer name frame r (learns text n a names says named is gives) = subst (AllByRecursion IsOfTurn) (sym is) (tt, (tt, tt))
  row_of_turn s peer name frame r (forgets text n a names says named is gives) = subst (AllByRecursion IsOfTurn) (sym is) (tt, tt)
  row_of_turn s peer name frame r (hands source at l e says found carried waits is word) = subst (AllByRecursion IsOfTurn) (sym is) (tt, tt)
  row_of_turn s peer name frame r (queues source at l e says found carried none is word) = subst (AllByRecursion IsOfTurn) (sym is) (tt, tt)
  row_of_turn s peer name frame r (loses source at l e says found late is word) = subst (AllByRecursion IsOfTurn) (sym is) (tt, tt)
  row_of_turn s peer name frame r (rejects source at number kind why says is gives) = subst (AllByRecursion IsOfTurn) (sym is) (tt, tt)
  row_of_turn s peer name frame r (accepts source at number kind e says found none free is gives) = subst (AllByRecursion IsOfTurn) (sym is) (tt, (tt, tt))
  row_of_turn s peer name frame r (acts source at l e c left says found has row is gives) = subst (AllByRecursion IsOfTurn) (sym is) (acting-all IsOfTurn at left tt (λ n. tt) (λ n why. tt) tt l)

  row_same : (s t : DomainState) (peer : ℕ) (name : Came) (frame : Reading) (r : Row) → Deals s peer name frame r → f (changed_all t r.happens) ≡ f t
  row_same s t peer name frame r deals = changes_same t r.happens (row_of_turn s peer name frame r deals)

  takes_same : (s : DomainState) (peer : ℕ) (ts : List Taken) → f (after_takes s peer ts) ≡ f s
  takes_same s peer [] = refl
  takes_same s peer (t ∷ ts) =
      takes_same (after_deed s (takes peer None t.frame t.fate)) peer ts
      ∙ (row_same s (changed s (taken_change peer (came_from s peer None t.frame))) peer (came_from s peer None t.frame) (said_from s peer t.frame) (row_from s peer None t.frame) (row-deals s peer (came_from s peer None t.frame) (said_from s peer t.frame)) ∙ same s (taken_change peer (came_from s peer None t.frame)) tt)

  pub visit-keeps : (s : DomainState) (v : Visit) → f (after_visit s v) ≡ f s
  visit-keeps s v =
      ap f (visit-after s v)
      ∙ (takes_same (after_looks s v) v.peer v.takes
      ∙ looks-keep f (λ t p n. same t (buffers_back p n) tt) (λ t p. same t (owed_put p) tt) (λ t p n. same t (frames_shown p n) tt) s v)

  pub turn-keeps : (s : DomainState) (vs : List Visit) → f (after_turn s vs) ≡ f s
  turn-keeps s [] = refl
  turn-keeps s (v ∷ vs) = turn-keeps (after_visit s v) vs ∙ visit-keeps s v
