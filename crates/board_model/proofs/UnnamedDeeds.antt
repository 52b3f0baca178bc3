-- Deeds without the names of frames: they may be done where the deeds may, and lead to the same state without names.
use Rattle.board_model.specs.Parts.{named_so}
use Rattle.std.proofs.Common.{◌≡◌, ℕ, ◌+◌, List, [], ◌∷◌, ◌++◌, map, length, Option, None, refl, sym, ap, ◌∙◌, subst}
use Rattle.std.specs.List.{flat_map}
use Rattle.std.proofs.lemmas.List.{map-append}
use Rattle.board_model.specs.Journal.{PlainEntry, Visit, Taken}
use Rattle.board_model.specs.State.{DomainState}
use Rattle.board_model.specs.Unnamed.{no_names, unnamed}
use Rattle.board_model.specs.TakenFrames.{row_from}
use Rattle.board_model.specs.Deeds.{Deed, looks_back, puts_owed, looks_ahead, takes, after_deed, after_deeds, AllMayDo}
use Rattle.board_model.specs.Turn.{nameless, takes_named, visit_deeds, after_visit, AreVisits, after_turn}
use Rattle.board_model.specs.Traffic.{taken_from}
use Rattle.board_model.specs.JournalDeeds.{names_from, named_deeds}
use Rattle.board_model.proofs.DeedJoins.{may-join, after-join}
use Rattle.board_model.proofs.RenamedDeeds.{renamed_deed, renamed_row, from-renamed, deed-renamed, deeds-renamed, all-renamed, renamed-may}

-- no frame that is taken has a name
abbrev pub no_name : ℕ → Option ℕ → Option ℕ
no_name peer name = None

none_named : (peer : ℕ) (name : Option ℕ) → no_names peer (named_so name) ≡ named_so (no_name peer name)
none_named peer name = refl

abbrev pub unnamed_deed : Deed → Deed
unnamed_deed = renamed_deed no_name

pub row-unnamed : (t : DomainState) (peer : ℕ) (name : Option ℕ) (frame : List ℕ) → row_from (unnamed t) peer None frame ≡ renamed_row no_names (row_from t peer name frame)
row-unnamed = from-renamed no_names no_name none_named

pub deed-unnamed : (t : DomainState) (d : Deed) → unnamed (after_deed t d) ≡ after_deed (unnamed t) (unnamed_deed d)
deed-unnamed = deed-renamed no_names no_name none_named

pub deeds-unnamed : (t : DomainState) (ds : List Deed) → unnamed (after_deeds t ds) ≡ after_deeds (unnamed t) (map unnamed_deed ds)
deeds-unnamed = deeds-renamed no_names no_name none_named

pub all-unnamed : (t : DomainState) (ds : List Deed) → AllMayDo t ds → AllMayDo (unnamed t) (map unnamed_deed ds)
all-unnamed = all-renamed no_names no_name none_named

unnamed-may : (t : DomainState) (ds : List Deed) → AllMayDo (unnamed t) (map unnamed_deed ds) → AllMayDo t ds
unnamed-may = renamed-may no_names no_name none_named

-- deeds that may be done and lead there
pub record Leads (t : DomainState) (ds : List Deed) (left : DomainState) : Type 0 where
  pub may : AllMayDo t ds
  pub leads : unnamed (after_deeds t ds) ≡ left

pub leads-join : (t : DomainState) (xs ys : List Deed) (middle left : DomainState) → Leads t xs middle → Leads (after_deeds t xs) ys left → Leads t (xs ++ ys) left
leads-join t xs ys middle left front rest = record { may = may-join t xs ys front.may rest.may; leads = ap unnamed (after-join t xs ys) ∙ rest.leads }

-- ---- visits

takes_unnamed : (name : ℕ → Option ℕ) (peer : ℕ) (ts : List Taken) → map unnamed_deed (takes_named name peer ts) ≡ takes_named nameless peer ts
takes_unnamed name peer [] = refl
takes_unnamed name peer (t ∷ ts) = ap (λ ds. takes peer None t.frame t.fate ∷ ds) (takes_unnamed (λ k. name (k + 1)) peer ts)

puts_unnamed : (peer : ℕ) (fs : List (List ℕ)) → map unnamed_deed (map (puts_owed peer) fs) ≡ map (puts_owed peer) fs
puts_unnamed peer [] = refl
puts_unnamed peer (f ∷ fs) = ap (λ ds. puts_owed peer f ∷ ds) (puts_unnamed peer fs)

pub visit-unnamed : (name : ℕ → Option ℕ) (v : Visit) → map unnamed_deed (visit_deeds name v) ≡ visit_deeds nameless v
visit-unnamed name v =
    ap (λ ds. looks_back v.peer v.back ∷ ds)
    (map-append unnamed_deed (map (puts_owed v.peer) v.owed) (looks_ahead v.peer v.see ∷ takes_named name v.peer v.takes)
    ∙ (ap (λ ds. ds ++ looks_ahead v.peer v.see ∷ map unnamed_deed (takes_named name v.peer v.takes)) (puts_unnamed v.peer v.owed)
    ∙ ap (λ ds. map (puts_owed v.peer) v.owed ++ looks_ahead v.peer v.see ∷ ds) (takes_unnamed name v.peer v.takes)))

visit_leads : (t : DomainState) (v : Visit) (name : ℕ → Option ℕ) → AllMayDo (unnamed t) (visit_deeds nameless v) → Leads t (visit_deeds name v) (after_visit (unnamed t) v)
visit_leads t v name may = record {
  may = unnamed-may t (visit_deeds name v) (subst (AllMayDo (unnamed t)) (sym (visit-unnamed name v)) may);
  leads = deeds-unnamed t (visit_deeds name v) ∙ ap (after_deeds (unnamed t)) (visit-unnamed name v);
}

pub turn-leads : (before : List PlainEntry) (vs : List Visit) (t : DomainState) → AreVisits (unnamed t) vs → Leads t (flat_map (named_deeds before) vs) (after_turn (unnamed t) vs)
turn-leads before [] t are = record { may = tt; leads = refl }
turn-leads before (v ∷ vs) t are =
    let front : Leads t (named_deeds before v) (after_visit (unnamed t) v) = visit_leads t v (names_from (length (taken_from v.peer before))) are.0.may in
    let rest = turn-leads before vs (after_deeds t (named_deeds before v)) (subst (λ s. AreVisits s vs) (sym front.leads) are.1) in
    leads-join t (named_deeds before v) (flat_map (named_deeds before) vs) (after_visit (unnamed t) v) (after_turn (after_visit (unnamed t) v) vs) front
    (record { may = rest.may; leads = rest.leads ∙ ap (λ s. after_turn s vs) front.leads })
