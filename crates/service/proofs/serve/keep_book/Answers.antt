use Rattle.service.proofs.serve.keep_book.Goals as goal

pub returns-in_default-clause-served : goal.returns-in_default-clause-served
returns-in_default-clause-served g c = c.in_default.ensures.served c.args.policy.now
