use Rattle.jobs.proofs.performing.perform.Goals as goal

pub returns-in-Open-clause-performed : goal.returns-in-Open-clause-performed
returns-in-Open-clause-performed g c = λ d. rw c.in-Open.is (c.open.ensures.performed d)

pub returns-in-Write-clause-performed : goal.returns-in-Write-clause-performed
returns-in-Write-clause-performed g c = λ d. rw c.in-Write.is (c.write.ensures.performed d)

pub returns-in-Abandon-clause-performed : goal.returns-in-Abandon-clause-performed
returns-in-Abandon-clause-performed g c = λ d. rw c.in-Abandon.is (c.abandon.ensures.performed d)
