-- How a step changes the view of the seat that makes it, and what the steps of a call come to.
-- Source: docs/ARCHITECTURE.md, the table of a bell's kinds of step.
use Rattle.std.specs.Prelude.{ℕ, zero, suc, true, false, ◌+◌, ◌==◌, List, [], ◌∷◌, ◌++◌, if◌then◌else◌}
use Rattle.door_bell.specs.declared.view.Stage.{Stage}
use Rattle.door_bell.specs.declared.view.Stage.TheVariants.{Awake, Arming, Asleep, GivingUp, Rung}
use Rattle.door_bell.specs.declared.view.SleeperView.{SleeperView}
use Rattle.door_bell.specs.declared.view.RingerView.{RingerView}

-- a sleeper that has done nothing, from which so many ringers parted
abbrev pub new_sleeper : ℕ → SleeperView
new_sleeper ringers = record { stage = Awake; ringers = ringers; found = 0; cleared = []; gave_up = 0; woken = 0 }

abbrev pub new_ringer : RingerView
new_ringer = record { rings = 0; posting = false }

-- one more ringer parted
abbrev pub parting : SleeperView → SleeperView
parting v = record v { ringers = v.ringers + 1 }

-- news are posted, and the ring is to come
abbrev pub posting_news : RingerView → RingerView
posting_news v = record { rings = v.rings + 1; posting = true }

-- the ring was tried
abbrev pub quiet : RingerView → RingerView
quiet v = record v { posting = false }

-- the news of ringer p are cleared
abbrev pub clearing : ℕ → SleeperView → SleeperView
clearing p v = record v { cleared = v.cleared ++ p ∷ [] }

abbrev pub arming : SleeperView → SleeperView
arming v = record v { stage = Arming; found = 0 }

-- where a sleeper is that found so many of its ringers without news
abbrev pub stage_at : ℕ → ℕ → Stage
stage_at ringers found = if found == ringers then Asleep else Arming

-- so many ringers are found without news
abbrev pub finding : ℕ → SleeperView → SleeperView
finding found v = record v { stage = stage_at v.ringers found; found = found }

abbrev pub giving_up : SleeperView → SleeperView
giving_up v = record v { stage = GivingUp; gave_up = v.gave_up + 1 }

-- a load of the next ringer's news, which returned this
abbrev pub hearing : ℕ → SleeperView → SleeperView
hearing news v = if news == 0 then finding (v.found + 1) v else giving_up v

abbrev pub ringing : SleeperView → SleeperView
ringing v = record v { stage = Rung; woken = v.woken + 1 }

-- a load of the state, which returned this
abbrev pub looking : ℕ → SleeperView → SleeperView
looking state v = if state == 2 then ringing v else v

abbrev pub waking : SleeperView → SleeperView
waking v = record v { stage = Awake; found = 0 }

-- the numbers below n, in rising order
abbrev pub numbers_below : ℕ → List ℕ
numbers_below zero = []
numbers_below (suc n) = numbers_below n ++ n ∷ []

-- the news of the ringers below n are cleared, in rising order
abbrev pub clearing_below : ℕ → SleeperView → SleeperView
clearing_below n v = record v { cleared = v.cleared ++ numbers_below n }

-- it began to arm, found every ringer without news, and is asleep
abbrev pub having_armed : SleeperView → SleeperView
having_armed v = record v { stage = Asleep; found = v.ringers }

-- it began to arm, found news, and is awake
abbrev pub having_given_up : SleeperView → SleeperView
having_given_up v = record v { found = 0; gave_up = v.gave_up + 1 }

-- it slept until a load of its own found that the bell was rung
abbrev pub having_slept : SleeperView → SleeperView
having_slept v = record v { stage = Awake; found = 0; woken = v.woken + 1 }
