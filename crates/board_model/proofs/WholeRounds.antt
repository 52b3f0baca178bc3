-- A board that runs serially goes on through the rounds of a wait.
use Rattle.std.proofs.Common.{◌≡◌, ℕ, zero, suc, ◌+◌, Bool, true, false, cond, List, [], ◌∷◌, Some, None, slice_get, refl, sym, ap, ◌∙◌, subst, inl, inr, arith, eq-eqb}
use Rattle.std.specs.Prelude.{IsSome}
use Rattle.board_model.specs.declared.scenario.CallLine.{CallLine}
use Rattle.board_model.specs.declared.scenario.Scenario.{Scenario}
use Rattle.board_model.specs.Scenario.{script, rising}
use Rattle.board_model.specs.LinkedBoard.{IsTold, IsLinkedBoard}
use Rattle.board_model.specs.Journal.{turned, waits, Visit}
use Rattle.board_model.specs.Answer.{answer}
use Rattle.board_model.specs.Step.{call_at, limit_of, is_timeout, is_done, EndsWait}
use Rattle.board_model.specs.SerialRun.{Station, Running, with_entry, all_turned, numbers, called_by, last_call, is_waiting_at, rounds, with_beginning, wait_run}
use Rattle.board_model.proofs.PlaceBoards.{rising_differ}
use Rattle.board_model.proofs.WaitCalls.{call-waits}
use Rattle.board_model.proofs.WholeHas.{Has, has-map, has-contained}
use Rattle.board_model.proofs.WholeStations.{station, station_after, entered_all}
use Rattle.board_model.proofs.WholeGoing.{Going}
use Rattle.board_model.proofs.WholeJoined.{Joined, has-rising}
use Rattle.board_model.proofs.WholeSteps.{turns_go, made_of, next_of, begin_goes, wait_call_goes, one_more}
use Rattle.board_model.proofs.WaitTurns.{IsWaiting, done_after, one_more_turn, one_turn, same_call}

is_numbered : (s : Scenario) (d : ℕ) → IsTold s d → Has (λ n. n ≡ d) (numbers s)
is_numbered s d told = has-map (λ n. n ≡ d) (λ l. l.domain) (rising s) (has-rising (λ l. l.domain ≡ d) s.domains (has-contained (λ l. l.domain) s.domains d told))

rounds_go : (s : Scenario) → IsLinkedBoard s → (line : CallLine) → IsTold s line.domain → (counts : ℕ → ℕ) → slice_get (script s line.domain) (counts line.domain) ≡ Some line → (limit : ℕ) → limit_of line.call ≡ Some limit → (more turns : ℕ) → turns + more ≡ limit → (r : Running) (t : Station) → Going s (Joined s) counts (made_of line.domain 0) r → station r line.domain ≡ Some t → IsWaiting line turns t → Going s (Joined s) (one_more counts line.domain) (λ n. 0) (rounds s line more r)
rounds_go s board line told counts here limit is zero turns within r t h e w =
    subst (λ o. Going s (Joined s) (one_more counts line.domain) (λ n. 0) (last_call s line o r)) (sym e)
    (wait_call_goes s counts r line t limit h e here is (subst (EndsWait limit (answer t.run.state line.node (call_at t.run line))) (sym w.begun) (inl (omega (arith, within), w.pends))))
rounds_go s board line told counts here limit is (suc more) turns within r t h e w =
    subst (λ o. Going s (Joined s) (one_more counts d) (λ n. 0) (cond (is_waiting_at line o) (rounds s line more q) (last_call s line o q))) (sym turn.1)
    (go (is_timeout (answer u.run.state line.node (call_at u.run line))) refl (λ v now waits. rounds_go s board line told counts here limit is more (turns + 1) (omega (arith, within)) q v going now waits))
  where
    d : ℕ
    d = line.domain

    q : Running
    q = all_turned s r (numbers s)

    turn : (vs : List Visit) × (station q d ≡ Some (entered_all s (turned vs ∷ []) t))
    turn = one_turn s (numbers s) d r t (rising_differ s board) (is_numbered s d told) e

    u : Station
    u = entered_all s (turned turn.0 ∷ []) t

    begun : u.run.waited ≡ Some (record { turns = turns + 1; done_before = false })
    begun = one_more_turn s line turns t turn.0 (next_of s counts (made_of d 0) r line t h e here) w

    going : Going s (Joined s) counts (made_of d 0) q
    going = turns_go s counts (made_of d 0) r (numbers s) h

    done : is_timeout (answer u.run.state line.node (call_at u.run line)) ≡ false → is_done (answer u.run.state line.node (call_at u.run line)) ≡ true
    done ends =
        let same : call_at u.run line ≡ call_at t.run line = same_call t.run.labels t.run.state turn.0 line.call limit is in
        ap (λ c. is_done (answer u.run.state line.node c)) same
        ∙ done_after t.run.state turn.0 line.node (call_at t.run line) (call-waits t.run.labels t.run.state line.call limit is) w.pends (sym (ap (λ c. is_timeout (answer u.run.state line.node c)) same) ∙ ends)

    go : (b : Bool) → is_timeout (answer u.run.state line.node (call_at u.run line)) ≡ b →
        ((v : Station) → station q d ≡ Some v → IsWaiting line (turns + 1) v → Going s (Joined s) (one_more counts d) (λ n. 0) (rounds s line more q)) →
        Going s (Joined s) (one_more counts d) (λ n. 0) (cond b (rounds s line more q) (called_by s line u q))
    go true pends again = again u turn.1 (record { begun = begun; pends = pends })
    go false ends again =
        wait_call_goes s counts q line u limit going turn.1 here is
        (subst (EndsWait limit (answer u.run.state line.node (call_at u.run line))) (sym begun) (inr (omega (arith, within), refl, done ends)))

-- a line that waits
pub wait_goes : (s : Scenario) → IsLinkedBoard s → (line : CallLine) → IsTold s line.domain → (counts : ℕ → ℕ) → slice_get (script s line.domain) (counts line.domain) ≡ Some line → (limit : ℕ) → limit_of line.call ≡ Some limit → (r : Running) (t : Station) → station r line.domain ≡ Some t → t.run.waited ≡ None → Going s (Joined s) counts (made_of line.domain 0) r → Going s (Joined s) (one_more counts line.domain) (λ n. 0) (wait_run s line limit r)
wait_goes s board line told counts here limit is r t e rests h =
    subst (λ o. Going s (Joined s) (one_more counts d) (λ n. 0) (cond (is_waiting_at line o) (rounds s line limit (with_beginning s line o r)) (last_call s line o r))) (sym e)
    (go (is_timeout (answer t.run.state line.node (call_at t.run line))) refl)
  where
    d : ℕ
    d = line.domain

    b : Running
    b = with_entry s d (waits (t.run.lines_called + 1)) r

    begun : station b d ≡ Some (entered_all s (waits (t.run.lines_called + 1) ∷ []) t)
    begun =
        station_after s d (waits (t.run.lines_called + 1) ∷ []) r t e d
        ∙ ap (λ x. cond x (Some (entered_all s (waits (t.run.lines_called + 1) ∷ []) t)) (station r d)) (eq-eqb d d refl)

    go : (x : Bool) → is_timeout (answer t.run.state line.node (call_at t.run line)) ≡ x → Going s (Joined s) (one_more counts d) (λ n. 0) (cond x (rounds s line limit b) (called_by s line t r))
    go true pends =
        rounds_go s board line told counts here limit is limit 0 (omega arith) b (entered_all s (waits (t.run.lines_called + 1) ∷ []) t)
        (begin_goes s counts r line t h e here (subst IsSome (sym is) refl) pends rests) begun (record { begun = refl; pends = pends })
    go false ends = wait_call_goes s counts r line t limit h e here is (subst (EndsWait limit (answer t.run.state line.node (call_at t.run line))) (sym rests) ends)
