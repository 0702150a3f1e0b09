use Rattle.branch_commit.proofs.Settling.{answers, leaves}
use Rattle.std.proofs.Common.{rules, sym, subst, Option}
use Rattle.store_core.specs.Files.{Files}
use Rattle.branch_commit.specs.Settled.{Leaves}
use Rattle.branch_commit.proofs.swapping.swap.Goals as goal

pub returns-in-Err-Failed-clause-answer : goal.returns-in-Err-Failed-clause-answer
returns-in-Err-Failed-clause-answer g c =
    answers (g.S.Store.files c.args.store.now) (g.S.Store.files c.swap.new.self) c.args.name.now c.args.bytes.now c.requires (c.swap.ensures.failed (search rules)) c.settle.result c.settle.ensures.answer

pub returns-in-Err-Failed-clause-leaves : goal.returns-in-Err-Failed-clause-leaves
returns-in-Err-Failed-clause-leaves g c =
    subst (λ (new : Option Files). Leaves c.args.name.now c.args.bytes.now (g.S.Store.files c.args.store.now) new c.settle.result) (sym c.settle.ensures.files)
    (leaves (g.S.Store.files c.args.store.now) (g.S.Store.files c.swap.new.self) c.args.name.now c.args.bytes.now (c.swap.ensures.failed (search rules)) c.settle.result c.settle.ensures.answer c.settle.ensures.missing)
