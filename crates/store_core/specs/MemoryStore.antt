-- What callers see of a store in memory.
use Rattle.std.specs.Prelude.{◌≡◌, ℕ, if◌then◌else◌, Option, Some, List}
use Rattle.plain_types.specs.Causes.{bump}
use Rattle.store_core.specs.Files.{Files}
use Rattle.store_core.specs.Memory.{files_of, same_kind, calls_of, planned}
use Rattle.store_core.specs.declared.memory_store.File.{File}
use Rattle.store_core.specs.declared.memory_store.FailAt.{FailAt}
use Rattle.store_core.specs.declared.memory_store.CallKind.{CallKind}
use Rattle.store_core.specs.declared.memory_store.Leave.{Leave}
use Rattle.store_core.specs.declared.memory_store.MemoryStore.{MemoryStore}

-- the files, as a list and as a map
abbrev pub held : MemoryStore → List File
held store = store.files

abbrev pub told : MemoryStore → Option Files
told store = Some (files_of store.files)

-- the calls that are to fail, and how many of a kind were made
abbrev pub plan_of : MemoryStore → List FailAt
plan_of store = store.plan

abbrev pub made : MemoryStore → CallKind → ℕ
made store kind = calls_of kind store.calls

abbrev pub faults_of : MemoryStore → ℕ
faults_of store = store.faults

abbrev pub reads_of : MemoryStore → ℕ
reads_of store = store.reads

abbrev pub unsettled_of : MemoryStore → ℕ
unsettled_of store = store.unsettled

-- what the next call of a kind leaves, where it is to fail
abbrev pub leave_of : CallKind → MemoryStore → Option Leave
leave_of kind store = planned kind (bump (made store kind)) (plan_of store)

-- one call more was made, of this kind, by the same plan
pub record Called (kind : CallKind) (old new : MemoryStore) : Type 0 where
  pub plan : plan_of new ≡ plan_of old
  pub calls : (other : CallKind) → made new other ≡ (if same_kind kind other then bump (made old other) else made old other)

-- a store before any call
pub record IsFresh (store : MemoryStore) : Type 0 where
  pub calls : (kind : CallKind) → made store kind ≡ 0
  pub faults : faults_of store ≡ 0
  pub reads : reads_of store ≡ 0
  pub unsettled : unsettled_of store ≡ 0
