use Rattle.std.proofs.Common.{Some, subst, sym, ap, ◌∙◌}
use Rattle.store_core.specs.Files.{Files, swapped, KeepsFiles}
use Rattle.store_core.specs.Memory.{files_of}
use Rattle.store_core.specs.declared.memory_store.MemoryStore.{MemoryStore}
use Rattle.store_core.proofs.FilesLemmas.{kept-swapped}
use Rattle.store_core.proofs.memory_store.MemoryStoreStore.swap.Goals as goal

pub returns-in_ok-add_new-in-None-clause-kept : goal.returns-in_ok-add_new-in-None-clause-kept
returns-in_ok-add_new-in-None-clause-kept c =
    let name = c.args.name.now in
    let bytes = c.args.bytes.now in
    let files = files_of c.args.self.now.files in
    let is = c.in_ok-add_new-in-None.ensures.ok ∙ ap (λ (s : MemoryStore). swapped name bytes (files_of s.files)) c.begin.ensures.counted in
    subst (λ (new : Files). KeepsFiles (Some files) (Some new)) (sym is) (kept-swapped files name bytes)

pub returns-in_ok-add_new-in-Some-Whole-clause-kept : goal.returns-in_ok-add_new-in-Some-Whole-clause-kept
returns-in_ok-add_new-in-Some-Whole-clause-kept c =
    let name = c.args.name.now in
    let bytes = c.args.bytes.now in
    let files = files_of c.args.self.now.files in
    let is = ap (λ (s : MemoryStore). files_of s.files) c.fail.ensures ∙ c.in_ok-add_new-in-Some-Whole.ensures.ok ∙ ap (λ (s : MemoryStore). swapped name bytes (files_of s.files)) c.begin.ensures.counted in
    subst (λ (new : Files). KeepsFiles (Some files) (Some new)) (sym is) (kept-swapped files name bytes)
