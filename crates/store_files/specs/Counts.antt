-- What a store over a folder counts.
use Rattle.plain_types.specs.Causes.{bump}
use Rattle.store_core.specs.declared.store.StoreFault.{StoreFault}
use Rattle.store_core.specs.declared.store.StoreFault.TheVariants.{Failed, Memory}
use Rattle.store_files.specs.declared.folder_store.Counts.{Counts}

-- a call that failed counts as a fault that no read has settled; want of memory doesn't count
abbrev pub counts_after : StoreFault → Counts → Counts
counts_after Failed counts = record counts { faults = bump counts.faults; unsettled = bump counts.unsettled }
counts_after Memory counts = counts
