-- Examples of verdicts on reports of one domain, and of two.
use Rattle.std.specs.Prelude.{◌≡◌, ℕ, List, ◌++◌, codes}
use Rattle.report_text.specs.declared.verdict.CheckReason.TheVariants as of
use Rattle.report_text.specs.declared.verdict.Verdict.TheVariants.{Right, Wrong}
use Rattle.report_text.specs.Verdicts.{verdict_on}

-- ---- a message that the domain sends itself

-- lines 1 to 17, and 19 to 21
abbrev pub front : List ℕ
front = codes "mcapi-report 1 serial\ndomain 0 nodes 1 pool 2\n0.0 create 1\n0.0 create 2\n0.0 msg_send 1 0:0:2 1 6869\n0.0 msg_recv 2 488\njournal 0\nidle 1\ncall 1 ok 1024\nidle 1\ncall 2 ok 1025\nidle 1\nput 0 0004000001040000000000000a0000004d010101000000006869\ncall 3 ok\nturn\nsee 0 1\ntake 0 0004000001040000000000000a0000004d010101000000006869 queued\n"

abbrev pub back : List ℕ
back = codes "messages accepted 1 taken 1 dropped 0 queued 0 ring 0\nlane 0 0 free 2 ring 0 queue 0 lent 0\n"

pub record Verdicts : Type 0 where
  pub right : verdict_on (front ++ (codes "call 4 ok 2 6869\n" ++ (back ++ codes "end\n"))) ≡ Right
  pub other_bytes : verdict_on (front ++ (codes "call 4 ok 2 6868\n" ++ (back ++ codes "end\n"))) ≡ Wrong 18 of.Step
  pub no_end : verdict_on (front ++ (codes "call 4 ok 2 6869\n" ++ back)) ≡ Wrong 21 of.Text
  pub no_last_call : verdict_on (front ++ (back ++ codes "end\n")) ≡ Wrong 18 of.Script
  pub other_place : verdict_on (front ++ (codes "call 4 ok 2 6869\nmessages accepted 1 taken 1 dropped 0 queued 0 ring 0\nlane 0 0 free 1 ring 0 queue 1 lent 0\nend\n")) ≡ Wrong 20 of.Total

-- ---- a wait for a message that does not come

-- lines 1 to 10, and the lines behind the journal
abbrev pub waiting : List ℕ
waiting = codes "mcapi-report 1 threads\ndomain 0 nodes 1 pool 2\n0.0 create 1\n0.0 a = msg_recv_i 1 488\n0.0 wait a 2\njournal 0\nidle 1\ncall 1 ok 1024\nidle 1\ncall 2 ok 0\n"

abbrev pub nothing_sent : List ℕ
nothing_sent = codes "messages accepted 0 taken 0 dropped 0 queued 0 ring 0\nlane 0 0 free 2 ring 0 queue 0 lent 0\nend\n"

pub record WaitVerdicts : Type 0 where
  pub right : verdict_on (waiting ++ (codes "wait 3\nidle 2\ncall 3 timeout\n" ++ nothing_sent)) ≡ Right
  pub too_early : verdict_on (waiting ++ (codes "wait 3\nidle 1\ncall 3 timeout\n" ++ nothing_sent)) ≡ Wrong 13 of.Step
  pub too_late : verdict_on (waiting ++ (codes "wait 3\nidle 3\ncall 3 timeout\n" ++ nothing_sent)) ≡ Wrong 13 of.Step
  pub not_begun : verdict_on (waiting ++ (codes "idle 2\ncall 3 timeout\n" ++ nothing_sent)) ≡ Wrong 12 of.Step
  pub begun_twice : verdict_on (waiting ++ (codes "wait 3\nwait 3\nidle 2\ncall 3 timeout\n" ++ nothing_sent)) ≡ Wrong 12 of.Step
  pub not_answered : verdict_on (waiting ++ (codes "wait 3\nidle 2\n" ++ nothing_sent)) ≡ Wrong 13 of.Script

-- ---- two domains on threads, with a link and no calls

-- lines 1 to 11
abbrev pub linked : List ℕ
linked = codes "mcapi-report 1 threads\ndomain 0 nodes 1 pool 2\ndomain 1 nodes 1 pool 2\nlink 0 1 size 2\njournal 0\njournal 1\nmessages accepted 0 taken 0 dropped 0 queued 0 ring 0\nlane 0 0 free 2 ring 0 queue 0 lent 0\nlane 0 1 free 2 ring 0 queue 0 lent 0\nlane 1 0 free 2 ring 0 queue 0 lent 0\nlane 1 1 free 2 ring 0 queue 0 lent 0\n"

-- the images of its rings
abbrev pub first_image : List ℕ
first_image = codes "000000000000000000020000020000000002000000000000000200000200000000000200000001000000000000000000000000000000000000000000000000000000"

abbrev pub second_image : List ℕ
second_image = codes "000400000000000000000000000000000006000000000000000000000000000000000000000000000000000000000000000000000000000000000000000000000000"

-- the first with another last digit
abbrev pub other_image : List ℕ
other_image = codes "000000000000000000020000020000000002000000000000000200000200000000000200000001000000000000000000000000000000000000000000000000000001"

pub record RingVerdicts : Type 0 where
  pub right : verdict_on (linked ++ (codes "ring 0 1 0 " ++ (first_image ++ (codes "\nring 0 1 1 " ++ (second_image ++ codes "\nend\n"))))) ≡ Right
  pub other_digit : verdict_on (linked ++ (codes "ring 0 1 0 " ++ (other_image ++ (codes "\nring 0 1 1 " ++ (second_image ++ codes "\nend\n"))))) ≡ Wrong 12 of.Total
  pub twice_the_first : verdict_on (linked ++ (codes "ring 0 1 0 " ++ (first_image ++ (codes "\nring 0 1 1 " ++ (first_image ++ codes "\nend\n"))))) ≡ Wrong 13 of.Total
  pub no_image : verdict_on (linked ++ (codes "ring 0 1 0 -\nring 0 1 1 " ++ (second_image ++ codes "\nend\n"))) ≡ Wrong 12 of.Total
  pub odd_digits : verdict_on (linked ++ (codes "ring 0 1 0 0" ++ (first_image ++ (codes "\nring 0 1 1 " ++ (second_image ++ codes "\nend\n"))))) ≡ Wrong 12 of.Text
  pub no_second_ring : verdict_on (linked ++ (codes "ring 0 1 0 " ++ (first_image ++ codes "\nend\n"))) ≡ Wrong 13 of.Text
