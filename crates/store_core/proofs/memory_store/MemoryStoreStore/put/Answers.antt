use Rattle.std.proofs.Common.{Some, refl, subst, sym, ap, ◌∙◌}
use Rattle.store_core.specs.Files.{Files, with_file, KeepsFiles}
use Rattle.store_core.specs.Memory.{files_of, left_by_put}
use Rattle.store_core.specs.declared.memory_store.MemoryStore.{MemoryStore}
use Rattle.store_core.proofs.FilesLemmas.{kept-with_file, kept-left_by_put}
use Rattle.store_core.proofs.memory_store.MemoryStoreStore.put.Goals as goal

pub returns-in_ok-add-in-None-clause-kept : goal.returns-in_ok-add-in-None-clause-kept
returns-in_ok-add-in-None-clause-kept c =
    let name = c.args.name.now in
    let bytes = c.args.bytes.now in
    let files = files_of c.args.self.now.files in
    let is = c.in_ok-add-in-None.ensures.ok ∙ ap (λ (s : MemoryStore). with_file name bytes (files_of s.files)) c.begin.ensures.counted in
    subst (λ (new : Files). KeepsFiles (Some files) (Some new)) (sym is) (kept-with_file files name bytes (c.requires _ refl))

pub returns-in_ok-leave_put-in-Some-clause-kept : goal.returns-in_ok-leave_put-in-Some-clause-kept
returns-in_ok-leave_put-in-Some-clause-kept c =
    let name = c.args.name.now in
    let bytes = c.args.bytes.now in
    let leave = c.in-Some.leave in
    let files = files_of c.args.self.now.files in
    let is = ap (λ (s : MemoryStore). files_of s.files) c.fail.ensures ∙ c.in_ok-leave_put-in-Some.ensures.ok ∙ ap (λ (s : MemoryStore). left_by_put leave name bytes (files_of s.files)) c.begin.ensures.counted in
    subst (λ (new : Files). KeepsFiles (Some files) (Some new)) (sym is) (kept-left_by_put leave files name bytes (c.requires _ refl))
