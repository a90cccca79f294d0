-- "show that two results allowed by it are equal": every public function, a line each, in the order of docs/STATEMENTS.md, over its own statement.
-- No `ensures` is quoted: `Reads.Learnt`, exported with the function's proof, is what a caller learns from its `ensures`. So the line of a function whose `ensures`
-- allows two results is refused. Assumes nothing.
use Rattle.std.specs.Prelude.{ℕ, ◌≡◌, refl, Bool, List}
use contract.Lifetimes.{Lfts}
use denote.RattleType.{RattleType}
use denote.Param.Laws.{Laws, IsCopy}
use mir.Syntax.{Dict}
use denote.Triple.Entry.{Args, Res}
use denote.Triple.Clauses.{Ended, Lasts, AtExit, at_exit}
use Rattle.std.specs.declared.clone.Clone.{Ghosts}
use Rattle.ground.specs.Splice.{WrittenIf}
use Rattle.ground.specs.ResultLaws.{one_result, one_writing}
use Rattle.fields.proofs as fields
use Rattle.fields.specs.contracts as fields_contracts
use Rattle.framing.proofs.block_header.BlockHeader as BlockHeader
use Rattle.framing.specs.contracts.block_header.BlockHeader as BlockHeaderContracts
use Rattle.framing.proofs.block_header.BlockHeaderRecord as BlockHeaderRecord
use Rattle.framing.specs.contracts.block_header.BlockHeaderRecord as BlockHeaderRecordContracts
use Rattle.framing.proofs.block_header.BlockHeaderDefining as BlockHeaderDefining
use Rattle.framing.specs.contracts.block_header.BlockHeaderDefining as BlockHeaderDefiningContracts
use Rattle.framing.proofs.empty.ModuleEmptyRecord as ModuleEmptyRecord
use Rattle.framing.specs.contracts.empty.ModuleEmptyRecord as ModuleEmptyRecordContracts
use Rattle.framing.proofs.empty.ModuleEmptyDefining as ModuleEmptyDefining
use Rattle.framing.specs.contracts.empty.ModuleEmptyDefining as ModuleEmptyDefiningContracts
use Rattle.framing.proofs.event_header.EventHeaderRecord as EventHeaderRecord
use Rattle.framing.specs.contracts.event_header.EventHeaderRecord as EventHeaderRecordContracts
use Rattle.framing.proofs.event_header.EventHeaderDefining as EventHeaderDefining
use Rattle.framing.specs.contracts.event_header.EventHeaderDefining as EventHeaderDefiningContracts
use Rattle.framing.proofs.filler.FillerRecord as FillerRecord
use Rattle.framing.specs.contracts.filler.FillerRecord as FillerRecordContracts
use Rattle.framing.proofs.filler.FillerDefining as FillerDefining
use Rattle.framing.specs.contracts.filler.FillerDefining as FillerDefiningContracts
use Rattle.framing.proofs.parameters.Parameters as Parameters
use Rattle.framing.specs.contracts.parameters.Parameters as ParametersContracts
use Rattle.framing.proofs.parameters.ParametersRecord as ParametersRecord
use Rattle.framing.specs.contracts.parameters.ParametersRecord as ParametersRecordContracts
use Rattle.framing.proofs.parameters.ParametersContinuation as ParametersContinuation
use Rattle.framing.specs.contracts.parameters.ParametersContinuation as ParametersContinuationContracts
use Rattle.framing.proofs.scaler.ScalerWordRecord as ScalerWordRecord
use Rattle.framing.specs.contracts.scaler.ScalerWordRecord as ScalerWordRecordContracts
use Rattle.framing.proofs.scalers.ScalerHeader as ScalerHeader
use Rattle.framing.specs.contracts.scalers.ScalerHeader as ScalerHeaderContracts
use Rattle.framing.proofs.scalers.ScalerHeaderRecord as ScalerHeaderRecord
use Rattle.framing.specs.contracts.scalers.ScalerHeaderRecord as ScalerHeaderRecordContracts
use Rattle.framing.proofs.scalers.ScalerHeaderDefining as ScalerHeaderDefining
use Rattle.framing.specs.contracts.scalers.ScalerHeaderDefining as ScalerHeaderDefiningContracts
use Rattle.framing.proofs.trailer.BlockTrailerRecord as BlockTrailerRecord
use Rattle.framing.specs.contracts.trailer.BlockTrailerRecord as BlockTrailerRecordContracts
use Rattle.framing.proofs.trailer.BlockTrailerDefining as BlockTrailerDefining
use Rattle.framing.specs.contracts.trailer.BlockTrailerDefining as BlockTrailerDefiningContracts
use Rattle.framing.proofs.trigger_time.TriggerTimeRecord as TriggerTimeRecord
use Rattle.framing.specs.contracts.trigger_time.TriggerTimeRecord as TriggerTimeRecordContracts
use Rattle.framing.proofs.trigger_time.TriggerTimeDefining as TriggerTimeDefining
use Rattle.framing.specs.contracts.trigger_time.TriggerTimeDefining as TriggerTimeDefiningContracts
use Rattle.framing.proofs.trigger_time_high.TriggerTimeHigh as TriggerTimeHigh
use Rattle.framing.specs.contracts.trigger_time_high.TriggerTimeHigh as TriggerTimeHighContracts
use Rattle.framing.proofs.trigger_time_high.TriggerTimeHighRecord as TriggerTimeHighRecord
use Rattle.framing.specs.contracts.trigger_time_high.TriggerTimeHighRecord as TriggerTimeHighRecordContracts
use Rattle.framing.proofs.trigger_time_high.TriggerTimeHighContinuation as TriggerTimeHighContinuation
use Rattle.framing.specs.contracts.trigger_time_high.TriggerTimeHighContinuation as TriggerTimeHighContinuationContracts
use Rattle.raw.proofs.pair.SamplePair as SamplePair
use Rattle.raw.specs.contracts.pair.SamplePair as SamplePairContracts
use Rattle.raw.proofs.pair.SamplePairRecord as SamplePairRecord
use Rattle.raw.specs.contracts.pair.SamplePairRecord as SamplePairRecordContracts
use Rattle.raw.proofs.pair.SamplePairContinuation as SamplePairContinuation
use Rattle.raw.specs.contracts.pair.SamplePairContinuation as SamplePairContinuationContracts
use Rattle.raw.proofs.pulse_raw.PulseRaw as PulseRaw
use Rattle.raw.specs.contracts.pulse_raw.PulseRaw as PulseRawContracts
use Rattle.raw.proofs.pulse_raw.PulseRawRecord as PulseRawRecord
use Rattle.raw.specs.contracts.pulse_raw.PulseRawRecord as PulseRawRecordContracts
use Rattle.raw.proofs.pulse_raw.PulseRawDefining as PulseRawDefining
use Rattle.raw.specs.contracts.pulse_raw.PulseRawDefining as PulseRawDefiningContracts
use Rattle.raw.proofs.window.WindowRaw as WindowRaw
use Rattle.raw.specs.contracts.window.WindowRaw as WindowRawContracts
use Rattle.raw.proofs.window.WindowRawRecord as WindowRawRecord
use Rattle.raw.specs.contracts.window.WindowRawRecord as WindowRawRecordContracts
use Rattle.raw.proofs.window.WindowRawDefining as WindowRawDefining
use Rattle.raw.specs.contracts.window.WindowRawDefining as WindowRawDefiningContracts
use Rattle.measures.proofs.integral.PulseIntegralRecord as PulseIntegralRecord
use Rattle.measures.specs.contracts.integral.PulseIntegralRecord as PulseIntegralRecordContracts
use Rattle.measures.proofs.integral.PulseIntegralDefining as PulseIntegralDefining
use Rattle.measures.specs.contracts.integral.PulseIntegralDefining as PulseIntegralDefiningContracts
use Rattle.measures.proofs.pedestal.PulsePedestalRecord as PulsePedestalRecord
use Rattle.measures.specs.contracts.pedestal.PulsePedestalRecord as PulsePedestalRecordContracts
use Rattle.measures.proofs.pedestal.PulsePedestalDefining as PulsePedestalDefining
use Rattle.measures.specs.contracts.pedestal.PulsePedestalDefining as PulsePedestalDefiningContracts
use Rattle.measures.proofs.time.PulseTime as PulseTime
use Rattle.measures.specs.contracts.time.PulseTime as PulseTimeContracts
use Rattle.measures.proofs.time.PulseTimeRecord as PulseTimeRecord
use Rattle.measures.specs.contracts.time.PulseTimeRecord as PulseTimeRecordContracts
use Rattle.measures.proofs.time.PulseTimeDefining as PulseTimeDefining
use Rattle.measures.specs.contracts.time.PulseTimeDefining as PulseTimeDefiningContracts
use Rattle.types.proofs as types
use Rattle.types.specs.contracts as types_contracts
use Rattle.items.proofs as items
use Rattle.items.specs.contracts as items_contracts
use Rattle.items.proofs.Item as Item
use Rattle.items.specs.contracts.Item as ItemContracts
use Rattle.refusals.specs.Refusal.{told}
use Rattle.refusals.specs.RefusalLaws.{told_inj}
use Rattle.refusals.proofs as refusals
use Rattle.refusals.specs.contracts as refusals_contracts
use Rattle.refusals.proofs.Refusal as Refusal
use Rattle.refusals.specs.contracts.Refusal as RefusalContracts
use Rattle.samples.proofs as samples
use Rattle.samples.specs.contracts as samples_contracts
use Rattle.settings.proofs as settings
use Rattle.settings.specs.contracts as settings_contracts
use Rattle.search.proofs as search
use Rattle.search.specs.contracts as search_contracts
use Rattle.timing.proofs as timing
use Rattle.timing.specs.contracts as timing_contracts
use Rattle.timing.proofs.Rule as Rule
use Rattle.timing.specs.contracts.Rule as RuleContracts
use Rattle.finder.proofs as finder
use Rattle.finder.specs.contracts as finder_contracts
use Rattle.find.proofs as find
use Rattle.find.specs.contracts as find_contracts
use Rattle.find.specs.CallLaws as F
use Rattle.pairs.proofs as pairs
use Rattle.pairs.specs.contracts as pairs_contracts
use Rattle.pulse.proofs as pulse
use Rattle.pulse.specs.contracts as pulse_contracts
use Rattle.modes.proofs as modes
use Rattle.modes.specs.contracts as modes_contracts
use Rattle.channel.proofs as channel
use Rattle.channel.specs.contracts as channel_contracts
use Rattle.rows.proofs as rows
use Rattle.rows.specs.contracts as rows_contracts
use Rattle.tail.proofs as tail
use Rattle.tail.specs.contracts as tail_contracts
use Rattle.event.proofs as event
use Rattle.event.specs.contracts as event_contracts
use Rattle.scalers.proofs as scalers
use Rattle.scalers.specs.contracts as scalers_contracts
use Rattle.state.proofs as state
use Rattle.state.specs.contracts as state_contracts
use Rattle.block.proofs as block
use Rattle.block.specs.contracts as block_contracts
use Rattle.refusing.proofs as refusing
use Rattle.refusing.specs.contracts as refusing_contracts
use Rattle.writer.proofs as writer
use Rattle.writer.specs.contracts as writer_contracts
use Rattle.closing.proofs as closing
use Rattle.closing.specs.contracts as closing_contracts
use Rattle.counting.proofs as counting
use Rattle.counting.specs.contracts as counting_contracts
use Rattle.counting.specs.CountingLaws as counted
use Rattle.closing.specs.ClosingLaws as closed
use Rattle.writer.specs.UniqueLaws as W
use Rattle.writer.specs.AnswerLaws.{made_inj, finished_inj}
use Rattle.scan.proofs as scan
use Rattle.scan.specs.contracts as scan_contracts
use Rattle.meaning.proofs as meaning
use Rattle.meaning.specs.contracts as meaning_contracts
use Rattle.questions.proofs as questions
use Rattle.questions.specs.contracts as questions_contracts
use Rattle.reader.proofs as reader
use Rattle.reader.specs.contracts as reader_contracts
use Rattle.reader.proofs.Refused as Refused
use Rattle.reader.specs.contracts.Refused as RefusedContracts
use Rattle.reader.specs.Step.{step_of}
use Rattle.reader.specs.Judged.{judged_of}
use Rattle.reader.specs.StepLaws.{step_inj, judged_inj}
use Rattle.rawitems.specs.Pairing.{pairing_of}
use Rattle.rawitems.specs.PairingLaws.{pairing_inj}
use Rattle.records.specs.NextOf.{next_of}
use Rattle.records.specs.NextOfLaws.{next_inj}
use Rattle.rawitems.proofs as rawitems
use Rattle.rawitems.specs.contracts as rawitems_contracts
use Rattle.rawsamples.proofs as rawsamples
use Rattle.rawsamples.specs.contracts as rawsamples_contracts
use Rattle.rawsamples.proofs.RawSamplesLaws.{one_unpacking}
use Rattle.follow.proofs as follow
use Rattle.follow.specs.contracts as follow_contracts
use Rattle.records.proofs as records
use Rattle.records.specs.contracts as records_contracts
use Rattle.copies.proofs as copies
use Rattle.copies.specs.contracts as copies_contracts
use Rattle.numbers.proofs as numbers
use Rattle.numbers.specs.contracts as numbers_contracts
use Rattle.places.proofs as places
use Rattle.places.specs.contracts as places_contracts
use Rattle.stretches.proofs as stretches
use Rattle.stretches.specs.contracts as stretches_contracts
use Rattle.bytecheck.proofs as bytecheck
use Rattle.bytecheck.specs.contracts as bytecheck_contracts
use Rattle.host.proofs as host
use Rattle.host.specs.contracts as host_contracts
use Rattle.hostcheck.proofs as hostcheck
use Rattle.hostcheck.specs.contracts as hostcheck_contracts
use Rattle.hostcount.proofs as hostcount
use Rattle.hostcount.specs.contracts as hostcount_contracts
use Rattle.hostfind.proofs as hostfind
use Rattle.hostfind.specs.contracts as hostfind_contracts
use Rattle.hostread.proofs as hostread
use Rattle.hostread.specs.contracts as hostread_contracts
use Rattle.host.specs.UniqueLaws as H
use Rattle.hostcount.specs.UniqueLaws as C
use Rattle.hostfind.specs.UniqueLaws as found
use Rattle.written.proofs as written
use Rattle.written.specs.contracts as written_contracts
use Rattle.text.proofs as text
use Rattle.text.specs.contracts as text_contracts
use Rattle.lines.proofs as lines
use Rattle.lines.specs.contracts as lines_contracts
use Rattle.entries.proofs as entries
use Rattle.entries.specs.contracts as entries_contracts
use Rattle.glance.proofs as glance
use Rattle.glance.specs.contracts as glance_contracts
use Rattle.blocklines.proofs as blocklines
use Rattle.blocklines.specs.contracts as blocklines_contracts
use Rattle.blocklines.specs.BlockLaws.{one_block}
use Rattle.listing.proofs as listing
use Rattle.listing.specs.contracts as listing_contracts
use Rattle.listing.specs.RoomLaws.{one_listing, one_length}
use Rattle.cursors.proofs as cursors
use Rattle.cursors.specs.contracts as cursors_contracts
use Rattle.cells.proofs as cells
use Rattle.cells.specs.contracts as cells_contracts
use Rattle.ends.proofs as ends
use Rattle.ends.specs.contracts as ends_contracts
use Rattle.reading.proofs as reading
use Rattle.reading.specs.contracts as reading_contracts
use Rattle.reading.specs.ReadingLaws.{next_face_unique}

-- a statement over a function's signature, `ended`: it speaks of the arguments, the answer, and the arguments as the call leaves them
abbrev pub Statement : Ended → Type 1
Statement T = (κs : Lfts T.signature.lifetimes) → Args T.signature κs → Res T.signature κs → AtExit T κs → Type 0

-- Whatever the arguments `a`, two results that the statement allows are equal. A result is the answer, `r` or `s`, and what is left of all that was lent, `u` or `v`:
-- `Lasts` holds a list for each `&mut` and nothing for any other argument, and `at_exit` is `a` with those lists in place of the lent ones
abbrev pub Unique : (T : Ended) → Statement T → Type 0
Unique T Says =
    (κs : Lfts T.signature.lifetimes) (a : Args T.signature κs) (r s : Res T.signature κs) (u v : Lasts T κs a)
    → Says κs a r (at_exit T κs a u) → Says κs a s (at_exit T κs a v) → (r ≡ s) × (u ≡ v)

-- a statement by an equation, where nothing is lent
by_equation : {A U : Type 0} {x r s : A} {u : U} → r ≡ x → s ≡ x → (r ≡ s) × (u ≡ u)
by_equation p q = (one_result p q, refl)

-- a statement of what an answer is in the paper's numbers, which tell it from every other
by_number : {A B U : Type 0} (told : A → B) → ((a b : A) → told a ≡ told b → a ≡ b) → {x : B} {r s : A} {u : U} → told r ≡ x → told s ≡ x → (r ≡ s) × (u ≡ u)
by_number told same p q = (same _ _ (one_result p q), refl)

-- words written from a place on where they fit, where the words are lent first and `rest` is what follows them
by_writing : {A U : Type 0} {good : Bool} {words new x y : List A} {at r s : ℕ} (rest : U) → WrittenIf good words at new r x → WrittenIf good words at new s y
    → (r ≡ s) × (◌≡◌ {A = List A × U} (x, rest) (y, rest))
by_writing rest p q = let e = one_writing p q in (e.0, λ i. (e.1 i, rest))

-- bytes put on a page, likewise
by_page : {A U : Type 0} {page : List ℕ × A} {x y : List ℕ} {r s : A} (rest : U) → (x, r) ≡ page → (y, s) ≡ page
    → (r ≡ s) × (◌≡◌ {A = List ℕ × U} (x, rest) (y, rest))
by_page rest p q = let e = one_result p q in (λ i. (e i).1, λ i. ((e i).0, rest))

-- ---- words and records

-- fields
pub take_unique : Unique fields_contracts.take.ended fields.take.Reads.Learnt
take_unique κs a r s u v p q = by_equation p q

pub put_unique : Unique fields_contracts.put.ended fields.put.Reads.Learnt
put_unique κs a r s u v p q = by_equation p q

pub defining_unique : Unique fields_contracts.defining.ended fields.defining.Reads.Learnt
defining_unique κs a r s u v p q = by_equation p q

pub continuation_unique : Unique fields_contracts.continuation.ended fields.continuation.Reads.Learnt
continuation_unique κs a r s u v p q = by_equation p q

pub is_defining_unique : Unique fields_contracts.is_defining.ended fields.is_defining.Reads.Learnt
is_defining_unique κs a r s u v p q = by_equation p q

pub is_continuation_unique : Unique fields_contracts.is_continuation.ended fields.is_continuation.Reads.Learnt
is_continuation_unique κs a r s u v p q = by_equation p q

pub of_bytes_unique : Unique fields_contracts.of_bytes.ended fields.of_bytes.Reads.Learnt
of_bytes_unique κs a r s u v p q = by_equation p q

pub to_bytes_unique : Unique fields_contracts.to_bytes.ended fields.to_bytes.Reads.Learnt
to_bytes_unique κs a r s u v p q = by_equation p q

-- framing::block_header
pub block_header_within_unique : Unique BlockHeaderContracts.within.ended BlockHeader.within.Reads.Learnt
block_header_within_unique κs a r s u v p q = by_equation p q

pub block_header_fits_unique : Unique BlockHeaderRecordContracts.fits.ended BlockHeaderRecord.fits.Reads.Learnt
block_header_fits_unique κs a r s u v p q = by_equation p q

pub block_header_build_unique : Unique BlockHeaderRecordContracts.build.ended BlockHeaderRecord.build.Reads.Learnt
block_header_build_unique κs a r s u v p q = by_equation p q

pub block_header_take_apart_unique : Unique BlockHeaderRecordContracts.take_apart.ended BlockHeaderRecord.take_apart.Reads.Learnt
block_header_take_apart_unique κs a r s u v p q = by_equation p q

pub block_header_is_unique : Unique BlockHeaderDefiningContracts.is.ended BlockHeaderDefining.is.Reads.Learnt
block_header_is_unique κs a r s u v p q = by_equation p q

pub block_header_fixed_unique : Unique BlockHeaderContracts.fixed.ended BlockHeader.fixed.Reads.Learnt
block_header_fixed_unique κs a r s u v p q = by_equation p q

-- framing::empty
pub empty_fits_unique : Unique ModuleEmptyRecordContracts.fits.ended ModuleEmptyRecord.fits.Reads.Learnt
empty_fits_unique κs a r s u v p q = by_equation p q

pub empty_build_unique : Unique ModuleEmptyRecordContracts.build.ended ModuleEmptyRecord.build.Reads.Learnt
empty_build_unique κs a r s u v p q = by_equation p q

pub empty_take_apart_unique : Unique ModuleEmptyRecordContracts.take_apart.ended ModuleEmptyRecord.take_apart.Reads.Learnt
empty_take_apart_unique κs a r s u v p q = by_equation p q

pub empty_is_unique : Unique ModuleEmptyDefiningContracts.is.ended ModuleEmptyDefining.is.Reads.Learnt
empty_is_unique κs a r s u v p q = by_equation p q

-- framing::event_header
pub event_header_fits_unique : Unique EventHeaderRecordContracts.fits.ended EventHeaderRecord.fits.Reads.Learnt
event_header_fits_unique κs a r s u v p q = by_equation p q

pub event_header_build_unique : Unique EventHeaderRecordContracts.build.ended EventHeaderRecord.build.Reads.Learnt
event_header_build_unique κs a r s u v p q = by_equation p q

pub event_header_take_apart_unique : Unique EventHeaderRecordContracts.take_apart.ended EventHeaderRecord.take_apart.Reads.Learnt
event_header_take_apart_unique κs a r s u v p q = by_equation p q

pub event_header_is_unique : Unique EventHeaderDefiningContracts.is.ended EventHeaderDefining.is.Reads.Learnt
event_header_is_unique κs a r s u v p q = by_equation p q

-- framing::filler
pub filler_fits_unique : Unique FillerRecordContracts.fits.ended FillerRecord.fits.Reads.Learnt
filler_fits_unique κs a r s u v p q = by_equation p q

pub filler_build_unique : Unique FillerRecordContracts.build.ended FillerRecord.build.Reads.Learnt
filler_build_unique κs a r s u v p q = by_equation p q

pub filler_take_apart_unique : Unique FillerRecordContracts.take_apart.ended FillerRecord.take_apart.Reads.Learnt
filler_take_apart_unique κs a r s u v p q = by_equation p q

pub filler_is_unique : Unique FillerDefiningContracts.is.ended FillerDefining.is.Reads.Learnt
filler_is_unique κs a r s u v p q = by_equation p q

-- framing::parameters
pub parameters_fits_unique : Unique ParametersRecordContracts.fits.ended ParametersRecord.fits.Reads.Learnt
parameters_fits_unique κs a r s u v p q = by_equation p q

pub parameters_build_unique : Unique ParametersRecordContracts.build.ended ParametersRecord.build.Reads.Learnt
parameters_build_unique κs a r s u v p q = by_equation p q

pub parameters_take_apart_unique : Unique ParametersRecordContracts.take_apart.ended ParametersRecord.take_apart.Reads.Learnt
parameters_take_apart_unique κs a r s u v p q = by_equation p q

pub parameters_is_unique : Unique ParametersContinuationContracts.is.ended ParametersContinuation.is.Reads.Learnt
parameters_is_unique κs a r s u v p q = by_equation p q

pub parameters_fixed_unique : Unique ParametersContracts.fixed.ended Parameters.fixed.Reads.Learnt
parameters_fixed_unique κs a r s u v p q = by_equation p q

-- framing::scaler
pub scaler_fits_unique : Unique ScalerWordRecordContracts.fits.ended ScalerWordRecord.fits.Reads.Learnt
scaler_fits_unique κs a r s u v p q = by_equation p q

pub scaler_build_unique : Unique ScalerWordRecordContracts.build.ended ScalerWordRecord.build.Reads.Learnt
scaler_build_unique κs a r s u v p q = by_equation p q

pub scaler_take_apart_unique : Unique ScalerWordRecordContracts.take_apart.ended ScalerWordRecord.take_apart.Reads.Learnt
scaler_take_apart_unique κs a r s u v p q = by_equation p q

-- framing::scalers
pub scalers_fits_unique : Unique ScalerHeaderRecordContracts.fits.ended ScalerHeaderRecord.fits.Reads.Learnt
scalers_fits_unique κs a r s u v p q = by_equation p q

pub scalers_build_unique : Unique ScalerHeaderRecordContracts.build.ended ScalerHeaderRecord.build.Reads.Learnt
scalers_build_unique κs a r s u v p q = by_equation p q

pub scalers_take_apart_unique : Unique ScalerHeaderRecordContracts.take_apart.ended ScalerHeaderRecord.take_apart.Reads.Learnt
scalers_take_apart_unique κs a r s u v p q = by_equation p q

pub scalers_is_unique : Unique ScalerHeaderDefiningContracts.is.ended ScalerHeaderDefining.is.Reads.Learnt
scalers_is_unique κs a r s u v p q = by_equation p q

pub scalers_fixed_unique : Unique ScalerHeaderContracts.fixed.ended ScalerHeader.fixed.Reads.Learnt
scalers_fixed_unique κs a r s u v p q = by_equation p q

-- framing::trailer
pub trailer_fits_unique : Unique BlockTrailerRecordContracts.fits.ended BlockTrailerRecord.fits.Reads.Learnt
trailer_fits_unique κs a r s u v p q = by_equation p q

pub trailer_build_unique : Unique BlockTrailerRecordContracts.build.ended BlockTrailerRecord.build.Reads.Learnt
trailer_build_unique κs a r s u v p q = by_equation p q

pub trailer_take_apart_unique : Unique BlockTrailerRecordContracts.take_apart.ended BlockTrailerRecord.take_apart.Reads.Learnt
trailer_take_apart_unique κs a r s u v p q = by_equation p q

pub trailer_is_unique : Unique BlockTrailerDefiningContracts.is.ended BlockTrailerDefining.is.Reads.Learnt
trailer_is_unique κs a r s u v p q = by_equation p q

-- framing::trigger_time
pub trigger_time_fits_unique : Unique TriggerTimeRecordContracts.fits.ended TriggerTimeRecord.fits.Reads.Learnt
trigger_time_fits_unique κs a r s u v p q = by_equation p q

pub trigger_time_build_unique : Unique TriggerTimeRecordContracts.build.ended TriggerTimeRecord.build.Reads.Learnt
trigger_time_build_unique κs a r s u v p q = by_equation p q

pub trigger_time_take_apart_unique : Unique TriggerTimeRecordContracts.take_apart.ended TriggerTimeRecord.take_apart.Reads.Learnt
trigger_time_take_apart_unique κs a r s u v p q = by_equation p q

pub trigger_time_is_unique : Unique TriggerTimeDefiningContracts.is.ended TriggerTimeDefining.is.Reads.Learnt
trigger_time_is_unique κs a r s u v p q = by_equation p q

-- framing::trigger_time_high
pub trigger_time_high_fits_unique : Unique TriggerTimeHighRecordContracts.fits.ended TriggerTimeHighRecord.fits.Reads.Learnt
trigger_time_high_fits_unique κs a r s u v p q = by_equation p q

pub trigger_time_high_build_unique : Unique TriggerTimeHighRecordContracts.build.ended TriggerTimeHighRecord.build.Reads.Learnt
trigger_time_high_build_unique κs a r s u v p q = by_equation p q

pub trigger_time_high_take_apart_unique : Unique TriggerTimeHighRecordContracts.take_apart.ended TriggerTimeHighRecord.take_apart.Reads.Learnt
trigger_time_high_take_apart_unique κs a r s u v p q = by_equation p q

pub trigger_time_high_is_unique : Unique TriggerTimeHighContinuationContracts.is.ended TriggerTimeHighContinuation.is.Reads.Learnt
trigger_time_high_is_unique κs a r s u v p q = by_equation p q

pub trigger_time_high_fixed_unique : Unique TriggerTimeHighContracts.fixed.ended TriggerTimeHigh.fixed.Reads.Learnt
trigger_time_high_fixed_unique κs a r s u v p q = by_equation p q

-- raw::pair
pub pair_fits_unique : Unique SamplePairRecordContracts.fits.ended SamplePairRecord.fits.Reads.Learnt
pair_fits_unique κs a r s u v p q = by_equation p q

pub pair_build_unique : Unique SamplePairRecordContracts.build.ended SamplePairRecord.build.Reads.Learnt
pair_build_unique κs a r s u v p q = by_equation p q

pub pair_take_apart_unique : Unique SamplePairRecordContracts.take_apart.ended SamplePairRecord.take_apart.Reads.Learnt
pair_take_apart_unique κs a r s u v p q = by_equation p q

pub pair_is_unique : Unique SamplePairContinuationContracts.is.ended SamplePairContinuation.is.Reads.Learnt
pair_is_unique κs a r s u v p q = by_equation p q

pub pair_fixed_unique : Unique SamplePairContracts.fixed.ended SamplePair.fixed.Reads.Learnt
pair_fixed_unique κs a r s u v p q = by_equation p q

-- raw::pulse_raw
pub pulse_raw_fits_unique : Unique PulseRawRecordContracts.fits.ended PulseRawRecord.fits.Reads.Learnt
pulse_raw_fits_unique κs a r s u v p q = by_equation p q

pub pulse_raw_build_unique : Unique PulseRawRecordContracts.build.ended PulseRawRecord.build.Reads.Learnt
pulse_raw_build_unique κs a r s u v p q = by_equation p q

pub pulse_raw_take_apart_unique : Unique PulseRawRecordContracts.take_apart.ended PulseRawRecord.take_apart.Reads.Learnt
pulse_raw_take_apart_unique κs a r s u v p q = by_equation p q

pub pulse_raw_is_unique : Unique PulseRawDefiningContracts.is.ended PulseRawDefining.is.Reads.Learnt
pulse_raw_is_unique κs a r s u v p q = by_equation p q

pub pulse_raw_fixed_unique : Unique PulseRawContracts.fixed.ended PulseRaw.fixed.Reads.Learnt
pulse_raw_fixed_unique κs a r s u v p q = by_equation p q

-- raw::window
pub window_within_unique : Unique WindowRawContracts.within.ended WindowRaw.within.Reads.Learnt
window_within_unique κs a r s u v p q = by_equation p q

pub window_fits_unique : Unique WindowRawRecordContracts.fits.ended WindowRawRecord.fits.Reads.Learnt
window_fits_unique κs a r s u v p q = by_equation p q

pub window_build_unique : Unique WindowRawRecordContracts.build.ended WindowRawRecord.build.Reads.Learnt
window_build_unique κs a r s u v p q = by_equation p q

pub window_take_apart_unique : Unique WindowRawRecordContracts.take_apart.ended WindowRawRecord.take_apart.Reads.Learnt
window_take_apart_unique κs a r s u v p q = by_equation p q

pub window_is_unique : Unique WindowRawDefiningContracts.is.ended WindowRawDefining.is.Reads.Learnt
window_is_unique κs a r s u v p q = by_equation p q

pub window_fixed_unique : Unique WindowRawContracts.fixed.ended WindowRaw.fixed.Reads.Learnt
window_fixed_unique κs a r s u v p q = by_equation p q

-- measures::integral
pub integral_fits_unique : Unique PulseIntegralRecordContracts.fits.ended PulseIntegralRecord.fits.Reads.Learnt
integral_fits_unique κs a r s u v p q = by_equation p q

pub integral_build_unique : Unique PulseIntegralRecordContracts.build.ended PulseIntegralRecord.build.Reads.Learnt
integral_build_unique κs a r s u v p q = by_equation p q

pub integral_take_apart_unique : Unique PulseIntegralRecordContracts.take_apart.ended PulseIntegralRecord.take_apart.Reads.Learnt
integral_take_apart_unique κs a r s u v p q = by_equation p q

pub integral_is_unique : Unique PulseIntegralDefiningContracts.is.ended PulseIntegralDefining.is.Reads.Learnt
integral_is_unique κs a r s u v p q = by_equation p q

-- measures::pedestal
pub pedestal_fits_unique : Unique PulsePedestalRecordContracts.fits.ended PulsePedestalRecord.fits.Reads.Learnt
pedestal_fits_unique κs a r s u v p q = by_equation p q

pub pedestal_build_unique : Unique PulsePedestalRecordContracts.build.ended PulsePedestalRecord.build.Reads.Learnt
pedestal_build_unique κs a r s u v p q = by_equation p q

pub pedestal_take_apart_unique : Unique PulsePedestalRecordContracts.take_apart.ended PulsePedestalRecord.take_apart.Reads.Learnt
pedestal_take_apart_unique κs a r s u v p q = by_equation p q

pub pedestal_is_unique : Unique PulsePedestalDefiningContracts.is.ended PulsePedestalDefining.is.Reads.Learnt
pedestal_is_unique κs a r s u v p q = by_equation p q

-- measures::time
pub time_fits_unique : Unique PulseTimeRecordContracts.fits.ended PulseTimeRecord.fits.Reads.Learnt
time_fits_unique κs a r s u v p q = by_equation p q

pub time_build_unique : Unique PulseTimeRecordContracts.build.ended PulseTimeRecord.build.Reads.Learnt
time_build_unique κs a r s u v p q = by_equation p q

pub time_take_apart_unique : Unique PulseTimeRecordContracts.take_apart.ended PulseTimeRecord.take_apart.Reads.Learnt
time_take_apart_unique κs a r s u v p q = by_equation p q

pub time_is_unique : Unique PulseTimeDefiningContracts.is.ended PulseTimeDefining.is.Reads.Learnt
time_is_unique κs a r s u v p q = by_equation p q

pub time_fixed_unique : Unique PulseTimeContracts.fixed.ended PulseTime.fixed.Reads.Learnt
time_fixed_unique κs a r s u v p q = by_equation p q

-- types
pub is_allowed_unique : Unique types_contracts.is_allowed.ended types.is_allowed.Reads.Learnt
is_allowed_unique κs a r s u v p q = by_equation p q

pub slot_differs_unique : Unique types_contracts.slot_differs.ended types.slot_differs.Reads.Learnt
slot_differs_unique κs a r s u v p q = by_equation p q

pub zeros_clear_unique : Unique types_contracts.zeros_clear.ended types.zeros_clear.Reads.Learnt
zeros_clear_unique κs a r s u v p q = by_equation p q

-- items
pub item_build_unique : Unique ItemContracts.build.ended Item.build.Reads.Learnt
item_build_unique κs a r s u v p q = by_equation p q

pub item_take_apart_unique : Unique ItemContracts.take_apart.ended Item.take_apart.Reads.Learnt
item_take_apart_unique κs a r s u v p q = by_equation p q

pub fixed_unique : Unique items_contracts.fixed.ended items.fixed.Reads.Learnt
fixed_unique κs a r s u v p q = by_equation p q

-- ---- settings and finder

-- refusals
pub number_unique : Unique RefusalContracts.number.ended Refusal.number.Reads.Learnt
number_unique κs a r s u v p q = by_equation p q

-- whatever the type of an answer's value
module _ (T : RattleType) (L : Laws T) (C : IsCopy T) (G : Ghosts T.Denot) (D : Dict) where
  pub told_unique : Unique (refusals_contracts.told.ended T G D) (refusals.told.Reads.Learnt T L C G D)
  told_unique κs a r s u v p q = by_equation p q

  pub told_bad_array_unique : Unique (refusals_contracts.told_bad_array.ended T G D) (refusals.told_bad_array.Reads.Learnt T L C G D)
  told_bad_array_unique κs a r s u v p q = by_equation p q

-- samples
pub amplitude_unique : Unique samples_contracts.amplitude.ended samples.amplitude.Reads.Learnt
amplitude_unique κs a r s u v p q = by_equation p.0 q.0

pub sample_over_unique : Unique samples_contracts.over.ended samples.over.Reads.Learnt
sample_over_unique κs a r s u v p q = by_equation p q

pub samples_ok_unique : Unique samples_contracts.samples_ok.ended samples.samples_ok.Reads.Learnt
samples_ok_unique κs a r s u v p q = by_equation p q

-- settings
pub in_range_unique : Unique settings_contracts.in_range.ended settings.in_range.Reads.Learnt
in_range_unique κs a r s u v p q = by_equation p q

-- search
pub any_over_unique : Unique search_contracts.any_over.ended search.any_over.Reads.Learnt
any_over_unique κs a r s u v p q = by_equation p q

pub tc_from_unique : Unique search_contracts.tc_from.ended search.tc_from.Reads.Learnt
tc_from_unique κs a r s u v p q = by_equation p q

pub is_early_unique : Unique search_contracts.is_early.ended search.is_early.Reads.Learnt
is_early_unique κs a r s u v p q = by_equation p q

-- timing
pub rule_number_unique : Unique RuleContracts.number.ended Rule.number.Reads.Learnt
rule_number_unique κs a r s u v p q = by_equation p q

pub base_of_unique : Unique timing_contracts.base_of.ended timing.base_of.Reads.Learnt
base_of_unique κs a r s u v p q = by_equation p q

pub tc_only_unique : Unique timing_contracts.tc_only.ended timing.tc_only.Reads.Learnt
tc_only_unique κs a r s u v p q = by_equation p q

pub time_from_unique : Unique timing_contracts.time_from.ended timing.time_from.Reads.Learnt
time_from_unique κs a r s u v p q = by_equation p q

-- finder
pub no_pulses_unique : Unique finder_contracts.no_pulses.ended finder.no_pulses.Reads.Learnt
no_pulses_unique κs a r s u v p q = by_equation p q

pub can_search_unique : Unique finder_contracts.can_search.ended finder.can_search.Reads.Learnt
can_search_unique κs a r s u v p q = by_equation p q

pub pulses_of_unique : Unique finder_contracts.pulses_of.ended finder.pulses_of.Reads.Learnt
pulses_of_unique κs a r s u v p q = by_equation p q

pub pulse_with_unique : Unique finder_contracts.pulse_with.ended finder.pulse_with.Reads.Learnt
pulse_with_unique κs a r s u v p q = by_equation p q

-- find
pub find_unique : Unique find_contracts.find.ended find.find.Reads.Learnt
find_unique κs a r s u v p q = (F.find_unique _ _ _ _ _ p q, refl)

-- ---- writing

-- items::put
pub put_item_unique : Unique items_contracts.put.put_item.ended items.put.put_item.Reads.Learnt
put_item_unique κs a r s u v p q = by_writing u.1 p q

pub put_if_unique : Unique items_contracts.put.put_if.ended items.put.put_if.Reads.Learnt
put_if_unique κs a r s u v p q = by_writing u.1 p q

pub room_short_unique : Unique items_contracts.put.room_short.ended items.put.room_short.Reads.Learnt
room_short_unique κs a r s u v p q = by_equation p q

-- pairs
pub run_length_if_unique : Unique pairs_contracts.run_length_if.ended pairs.run_length_if.Reads.Learnt
run_length_if_unique κs a r s u v p q = by_equation p q

pub put_run_unique : Unique pairs_contracts.put_run.ended pairs.put_run.Reads.Learnt
put_run_unique κs a r s u v p q = by_writing u.1 p q

-- pulse
pub set_length_unique : Unique pulse_contracts.set_length.ended pulse.set_length.Reads.Learnt
set_length_unique κs a r s u v p q = by_equation p q

pub pulse_length_unique : Unique pulse_contracts.pulse_length.ended pulse.pulse_length.Reads.Learnt
pulse_length_unique κs a r s u v p q = by_equation p q

pub put_pulse_unique : Unique pulse_contracts.put_pulse.ended pulse.put_pulse.Reads.Learnt
put_pulse_unique κs a r s u v p q = by_writing u.1 p q

-- modes
pub common_from_unique : Unique modes_contracts.CommonFromSettings.from.ended modes.CommonFromSettings.from.Reads.Learnt
common_from_unique κs a r s u v p q = by_equation p q

pub parts_of_unique : Unique modes_contracts.parts_of.ended modes.parts_of.Reads.Learnt
parts_of_unique κs a r s u v p q = by_equation p q

pub limit_for_unique : Unique modes_contracts.limit_for.ended modes.limit_for.Reads.Learnt
limit_for_unique κs a r s u v p q = by_equation p q

pub most_words_unique : Unique modes_contracts.most_words.ended modes.most_words.Reads.Learnt
most_words_unique κs a r s u v p q = by_equation p q

pub channel_length_unique : Unique modes_contracts.channel_length.ended modes.channel_length.Reads.Learnt
channel_length_unique κs a r s u v p q = by_equation p q

-- channel
pub put_channel_unique : Unique channel_contracts.put_channel.ended channel.put_channel.Reads.Learnt
put_channel_unique κs a r s u v p q = by_writing u.1 p q

-- rows
pub lent_unique : Unique rows_contracts.lent.ended rows.lent.Reads.Learnt
lent_unique κs a r s u v p q = by_equation p q

pub rows_ok_unique : Unique rows_contracts.rows_ok.ended rows.rows_ok.Reads.Learnt
rows_ok_unique κs a r s u v p q = by_equation p q

-- tail
pub put_tail_unique : Unique tail_contracts.put_tail.ended tail.put_tail.Reads.Learnt
put_tail_unique κs a r s u v p q = by_writing u.1 p q

-- event
pub put_event_unique : Unique event_contracts.put_event.ended event.put_event.Reads.Learnt
put_event_unique κs a r s u v p q = by_writing u.1 p q

-- scalers
pub no_scalers_unique : Unique scalers_contracts.none.ended scalers.none.Reads.Learnt
no_scalers_unique κs a r s u v p q = by_equation p q

pub trigger_unique : Unique scalers_contracts.trigger.ended scalers.trigger.Reads.Learnt
trigger_unique κs a r s u v p q = by_equation p q

pub scalers_latch_unique : Unique scalers_contracts.latch.ended scalers.latch.Reads.Learnt
scalers_latch_unique κs a r s u v p q = by_equation p q

pub scalers_reset_unique : Unique scalers_contracts.reset.ended scalers.reset.Reads.Learnt
scalers_reset_unique κs a r s u v p q = by_equation p q

pub scalers_count_unique : Unique scalers_contracts.count.ended scalers.count.Reads.Learnt
scalers_count_unique κs a r s u v p q = by_equation p q

-- state
pub idle_state_unique : Unique state_contracts.idle_state.ended state.idle_state.Reads.Learnt
idle_state_unique κs a r s u v p q = by_equation p q

pub no_state_unique : Unique state_contracts.no_state.ended state.no_state.Reads.Learnt
no_state_unique κs a r s u v p q = by_equation p q

pub block_ok_unique : Unique state_contracts.ranges.block_ok.ended state.ranges.block_ok.Reads.Learnt
block_ok_unique κs a r s u v p q = by_equation p q

pub event_ok_unique : Unique state_contracts.ranges.event_ok.ended state.ranges.event_ok.Reads.Learnt
event_ok_unique κs a r s u v p q = by_equation p q

pub head_words_unique : Unique state_contracts.ranges.head_words.ended state.ranges.head_words.Reads.Learnt
head_words_unique κs a r s u v p q = by_equation p q

pub common_ok_unique : Unique state_contracts.ranges.common_ok.ended state.ranges.common_ok.Reads.Learnt
common_ok_unique κs a r s u v p q = by_equation p q

pub idle_ok_unique : Unique state_contracts.ranges.idle_ok.ended state.ranges.idle_ok.Reads.Learnt
idle_ok_unique κs a r s u v p q = by_equation p q

pub between_ok_unique : Unique state_contracts.ranges.between_ok.ended state.ranges.between_ok.Reads.Learnt
between_ok_unique κs a r s u v p q = by_equation p q

pub during_ok_unique : Unique state_contracts.ranges.during_ok.ended state.ranges.during_ok.Reads.Learnt
during_ok_unique κs a r s u v p q = by_equation p q

pub state_ok_unique : Unique state_contracts.ranges.state_ok.ended state.ranges.state_ok.Reads.Learnt
state_ok_unique κs a r s u v p q = by_equation p q

pub is_idle_unique : Unique state_contracts.ranges.is_idle.ended state.ranges.is_idle.Reads.Learnt
is_idle_unique κs a r s u v p q = by_equation p q

pub is_block_unique : Unique state_contracts.ranges.is_block.ended state.ranges.is_block.Reads.Learnt
is_block_unique κs a r s u v p q = by_equation p q

pub is_event_unique : Unique state_contracts.ranges.is_event.ended state.ranges.is_event.Reads.Learnt
is_event_unique κs a r s u v p q = by_equation p q

-- block
pub put_block_unique : Unique block_contracts.put_block.ended block.put_block.Reads.Learnt
put_block_unique κs a r s u v p q = by_writing u.1 p q

pub put_end_unique : Unique block_contracts.put_end.ended block.put_end.Reads.Learnt
put_end_unique κs a r s u v p q = by_writing u.1 p q

pub end_short_unique : Unique block_contracts.end_short.ended block.end_short.Reads.Learnt
end_short_unique κs a r s u v p q = by_equation p q

-- refusing
pub open_block_check_unique : Unique refusing_contracts.open_block_check.ended refusing.open_block_check.Reads.Learnt
open_block_check_unique κs a r s u v p q = (W.one_refusal r s p q, refl)

pub open_event_check_unique : Unique refusing_contracts.open_event_check.ended refusing.open_event_check.Reads.Learnt
open_event_check_unique κs a r s u v p q = (W.one_refusal r s p q, refl)

pub post_check_unique : Unique refusing_contracts.post_check.ended refusing.post_check.Reads.Learnt
post_check_unique κs a r s u v p q = (W.one_refusal r s p q, refl)

pub close_check_unique : Unique refusing_contracts.close_check.ended refusing.close_check.Reads.Learnt
close_check_unique κs a r s u v p q = (W.one_refusal r s p q, refl)

pub finish_check_unique : Unique refusing_contracts.finish_check.ended refusing.finish_check.Reads.Learnt
finish_check_unique κs a r s u v p q = (W.one_refusal r s p q, refl)

-- writer
pub set_up_unique : Unique writer_contracts.set_up.ended writer.set_up.Reads.Learnt
set_up_unique κs a r s u v p q = (made_inj _ _ (W.set_up_unique _ _ _ p q), refl)

pub open_block_unique : Unique writer_contracts.open_block.ended writer.open_block.Reads.Learnt
open_block_unique κs a r s u v p q = let e = W.open_block_unique _ _ _ _ _ _ _ _ p q in (λ i. (e.0 i).refusal, λ i. ((e.0 i).state, (e.1 i, u.1.1)))

pub open_event_unique : Unique writer_contracts.open_event.ended writer.open_event.Reads.Learnt
open_event_unique κs a r s u v p q = let e = W.open_event_unique _ _ _ _ _ p q in (λ i. (e i).refusal, λ i. ((e i).state, u.1))

pub post_unique : Unique writer_contracts.post.ended writer.post.Reads.Learnt
post_unique κs a r s u v p q = let e = W.post_unique _ _ _ _ _ _ _ _ p q in (λ i. (e.0 i).refusal, λ i. ((e.0 i).state, (e.1 i, u.1.1)))

pub close_unique : Unique closing_contracts.close.ended closing.close.Reads.Learnt
close_unique κs a r s u v p q = let e = closed.close_unique _ _ _ _ _ _ _ _ p q in (λ i. (e.0 i).refusal, λ i. ((e.0 i).state, (tt, (e.1 i, u.1.1.1))))

pub finish_unique : Unique writer_contracts.finish.ended writer.finish.Reads.Learnt
finish_unique κs a r s u v p q = let e = W.finish_unique _ _ _ _ _ _ p q in let f = finished_inj _ _ _ _ e.0 in (f.0, λ i. (f.1 i, (e.1 i, tt)))

-- counting
pub count_unique : Unique counting_contracts.count.ended counting.count.Reads.Learnt
count_unique κs a r s u v p q = let e = counted.count_unique _ _ _ _ p q in (λ i. (e i).refusal, λ i. ((e i).state, u.1))

pub latch_unique : Unique counting_contracts.latch.ended counting.latch.Reads.Learnt
latch_unique κs a r s u v p q = let e = counted.latch_unique _ _ _ p q in (λ i. (e i).refusal, λ i. ((e i).state, tt))

pub reset_unique : Unique counting_contracts.reset.ended counting.reset.Reads.Learnt
reset_unique κs a r s u v p q = let e = counted.reset_unique _ _ _ p q in (λ i. (e i).refusal, λ i. ((e i).state, tt))

-- ---- reading

-- scan
pub scan_start_unique : Unique scan_contracts.Scan.start.ended scan.Scan.start.Reads.Learnt
scan_start_unique κs a r s u v p q = by_equation p q

pub next_place_unique : Unique scan_contracts.after.next_place.ended scan.after.next_place.Reads.Learnt
next_place_unique κs a r s u v p q = by_equation p q

pub window_paired_unique : Unique scan_contracts.after.window_paired.ended scan.after.window_paired.Reads.Learnt
window_paired_unique κs a r s u v p q = by_equation p q

pub moved_unique : Unique scan_contracts.after.moved.ended scan.after.moved.Reads.Learnt
moved_unique κs a r s u v p q = by_equation p q

pub scan_after_unique : Unique scan_contracts.after.scan_after.ended scan.after.scan_after.Reads.Learnt
scan_after_unique κs a r s u v p q = by_equation p q

-- meaning
pub meaning_at_unique : Unique meaning_contracts.meaning_at.ended meaning.meaning_at.Reads.Learnt
meaning_at_unique κs a r s u v p q = by_equation p q

pub is_unfinished_unique : Unique meaning_contracts.is_unfinished.ended meaning.is_unfinished.Reads.Learnt
is_unfinished_unique κs a r s u v p q = by_equation p q

-- questions
pub at_limit_unique : Unique questions_contracts.at_limit.ended questions.at_limit.Reads.Learnt
at_limit_unique κs a r s u v p q = by_equation p q

pub window_flag_wrong_unique : Unique questions_contracts.window_flag_wrong.ended questions.window_flag_wrong.Reads.Learnt
window_flag_wrong_unique κs a r s u v p q = by_equation p q

pub pair_bits_wrong_unique : Unique questions_contracts.pair_bits_wrong.ended questions.pair_bits_wrong.Reads.Learnt
pair_bits_wrong_unique κs a r s u v p q = by_equation p q

pub refusal_unique : Unique questions_contracts.refusal.ended questions.refusal.Reads.Learnt
refusal_unique κs a r s u v p q = by_number told told_inj p q

-- reader
pub refused_at_unique : Unique RefusedContracts.at.ended Refused.at.Reads.Learnt
refused_at_unique κs a r s u v p q = by_equation p q

pub step_at_unique : Unique reader_contracts.step_at.ended reader.step_at.Reads.Learnt
step_at_unique κs a r s u v p q = by_number step_of step_inj p.answer q.answer

pub judge_at_unique : Unique reader_contracts.judge_at.ended reader.judge_at.Reads.Learnt
judge_at_unique κs a r s u v p q = by_number judged_of judged_inj p.answer q.answer

pub at_end_unique : Unique reader_contracts.at_end.ended reader.at_end.Reads.Learnt
at_end_unique κs a r s u v p q = by_number told told_inj p q

-- follow
pub high_from_unique : Unique follow_contracts.high_from.ended follow.high_from.Reads.Learnt
high_from_unique κs a r s u v p q = by_equation p q

pub fill_from_unique : Unique follow_contracts.fill_from.ended follow.fill_from.Reads.Learnt
fill_from_unique κs a r s u v p q = by_equation p q

-- records
pub next_unique : Unique records_contracts.next.ended records.next.Reads.Learnt
next_unique κs a r s u v p q = by_number next_of next_inj p.answer q.answer

-- rawitems; of `part`, whose answer is a reference, the words that it lends
pub pairs_from_unique : Unique rawitems_contracts.pairs_from.ended rawitems.pairs_from.Reads.Learnt
pairs_from_unique κs a r s u v p q = by_number pairing_of pairing_inj p q

-- stretches
pub word_at_unique : Unique stretches_contracts.word_at.ended stretches.word_at.Reads.Learnt
word_at_unique κs a r s u v p q = by_equation p q

pub is_single_unique : Unique stretches_contracts.is_single.ended stretches.is_single.Reads.Learnt
is_single_unique κs a r s u v p q = by_equation p q

pub all_plain_unique : Unique stretches_contracts.all_plain.ended stretches.all_plain.Reads.Learnt
all_plain_unique κs a r s u v p q = by_equation p q

pub few_plain_unique : Unique stretches_contracts.few_plain.ended stretches.few_plain.Reads.Learnt
few_plain_unique κs a r s u v p q = by_equation p q

pub measured_count_unique : Unique stretches_contracts.measured_count.ended stretches.measured_count.Reads.Learnt
measured_count_unique κs a r s u v p q = by_equation p q

-- runs: how far `past_items` goes is left open

-- bytecheck
pub check_bytes_unique : Unique bytecheck_contracts.check_bytes.ended bytecheck.check_bytes.Reads.Learnt
check_bytes_unique κs a r s u v p q = by_equation p q

pub part_unique : (κs : Lfts 1) (a : Args (rawitems_contracts.part.ended).signature κs) (r s : Res (rawitems_contracts.part.ended).signature κs)
    → rawitems.part.Reads.Learnt κs a r a → rawitems.part.Reads.Learnt κs a s a → r.now ≡ s.now
part_unique κs a r s p q = one_result p q

-- host
pub fadc250_check_unique : Unique hostcheck_contracts.fadc250_check.ended hostcheck.fadc250_check.Reads.Learnt
fadc250_check_unique κs a r s u v p q = by_equation p q

-- ---- from C

-- copies, whatever the type of an element
module _ (T : RattleType) (L : Laws T) (C : IsCopy T) (G : Ghosts T.Denot) (D : Dict) where
  pub put_copies_unique : Unique (copies_contracts.put.ended T G D) (copies.put.Reads.Learnt T L C G D)
  put_copies_unique κs a r s u v p q = (refl, λ i. (one_result p q i, u.1))

-- numbers
pub is_settings_unique : Unique places_contracts.is_settings.ended places.is_settings.Reads.Learnt
is_settings_unique κs a r s u v p q = by_equation p q

pub is_state_unique : Unique places_contracts.is_state.ended places.is_state.Reads.Learnt
is_state_unique κs a r s u v p q = by_equation p q

pub settings_or_none_unique : Unique numbers_contracts.load.settings_or_none.ended numbers.load.settings_or_none.Reads.Learnt
settings_or_none_unique κs a r s u v p q = by_equation p q

pub state_or_none_unique : Unique numbers_contracts.load.state_or_none.ended numbers.load.state_or_none.Reads.Learnt
state_or_none_unique κs a r s u v p q = by_equation p q

pub phase_number_unique : Unique numbers_contracts.store.phase_number.ended numbers.store.phase_number.Reads.Learnt
phase_number_unique κs a r s u v p q = by_equation p q

pub put_head_unique : Unique numbers_contracts.store.put_head.ended numbers.store.put_head.Reads.Learnt
put_head_unique κs a r s u v p q = (refl, λ i. (one_result p q i, u.1))

pub put_scalers_unique : Unique numbers_contracts.store.put_scalers.ended numbers.store.put_scalers.Reads.Learnt
put_scalers_unique κs a r s u v p q = (refl, λ i. (one_result p q i, u.1))

pub put_state_unique : Unique numbers_contracts.store.put_state.ended numbers.store.put_state.Reads.Learnt
put_state_unique κs a r s u v p q = (refl, λ i. (one_result p q i, u.1))

-- host
pub fadc250_set_up_unique : Unique host_contracts.fadc250_set_up.ended host.fadc250_set_up.Reads.Learnt
fadc250_set_up_unique κs a r s u v p q = let e = H.set_up_face_unique _ _ _ _ _ _ p q in (e.0, λ i. (tt, (e.1 i, tt)))

pub fadc250_open_block_unique : Unique host_contracts.fadc250_open_block.ended host.fadc250_open_block.Reads.Learnt
fadc250_open_block_unique κs a r s u v p q = let e = H.open_block_face_unique _ _ _ _ _ _ _ _ _ _ p q in (e.0, λ i. (e.1.0 i, (e.1.1 i, u.1.1)))

pub fadc250_open_event_unique : Unique host_contracts.fadc250_open_event.ended host.fadc250_open_event.Reads.Learnt
fadc250_open_event_unique κs a r s u v p q = let e = H.open_event_face_unique _ _ _ _ _ _ _ p q in (e.0, λ i. (e.1 i, u.1))

pub fadc250_post_unique : Unique host_contracts.fadc250_post.ended host.fadc250_post.Reads.Learnt
fadc250_post_unique κs a r s u v p q = let e = H.post_face_unique _ _ _ _ _ _ _ _ _ _ p q in (e.0, λ i. (e.1.0 i, (e.1.1 i, u.1.1)))

pub fadc250_close_unique : Unique host_contracts.fadc250_close.ended host.fadc250_close.Reads.Learnt
fadc250_close_unique κs a r s u v p q = let e = H.close_face_unique _ _ _ _ _ _ _ _ _ _ p q in (e.0, λ i. (e.1.0 i, (tt, (e.1.1 i, tt))))

pub fadc250_close_with_scalers_unique : Unique host_contracts.fadc250_close_with_scalers.ended host.fadc250_close_with_scalers.Reads.Learnt
fadc250_close_with_scalers_unique κs a r s u v p q = let e = H.close_face_unique _ _ _ _ _ _ _ _ _ _ p q in (e.0, λ i. (e.1.0 i, (tt, (e.1.1 i, tt))))

pub fadc250_finish_unique : Unique host_contracts.fadc250_finish.ended host.fadc250_finish.Reads.Learnt
fadc250_finish_unique κs a r s u v p q = let e = H.finish_face_unique _ _ _ _ _ _ _ _ p q in (e.0, λ i. (e.1.0 i, (e.1.1 i, tt)))

-- hostcount
pub fadc250_count_unique : Unique hostcount_contracts.fadc250_count.ended hostcount.fadc250_count.Reads.Learnt
fadc250_count_unique κs a r s u v p q = let e = C.count_face_unique _ _ _ _ _ _ p q in (e.0, λ i. (e.1 i, u.1))

pub fadc250_latch_unique : Unique hostcount_contracts.fadc250_latch.ended hostcount.fadc250_latch.Reads.Learnt
fadc250_latch_unique κs a r s u v p q = let e = C.latch_face_unique _ _ _ _ _ p q in (e.0, λ i. (e.1 i, tt))

pub fadc250_reset_unique : Unique hostcount_contracts.fadc250_reset.ended hostcount.fadc250_reset.Reads.Learnt
fadc250_reset_unique κs a r s u v p q = let e = C.reset_face_unique _ _ _ _ _ p q in (e.0, λ i. (e.1 i, tt))

-- hostfind
pub fadc250_find_unique : Unique hostfind_contracts.fadc250_find.ended hostfind.fadc250_find.Reads.Learnt
fadc250_find_unique κs a r s u v p q = let e = found.find_face_unique _ _ _ _ _ _ _ _ p q in (e.0, λ i. (tt, (tt, (tt, (e.1 i, tt)))))

-- ---- listing

-- written
pub line_unique : Unique written_contracts.line.ended written.line.Reads.Learnt
line_unique κs a r s u v p q = by_page u.1 p q

pub cell_unique : Unique written_contracts.cell.ended written.cell.Reads.Learnt
cell_unique κs a r s u v p q = let e = one_result p.0 q.0 in (λ i. record { bytes = (e i).0; count = (e i).1 }, refl)

-- text
pub put_bytes_unique : Unique text_contracts.put_bytes.ended text.put_bytes.Reads.Learnt
put_bytes_unique κs a r s u v p q = by_page u.1 p q

pub put_cell_unique : Unique text_contracts.put_cell.ended text.put_cell.Reads.Learnt
put_cell_unique κs a r s u v p q = by_page u.1 p q

pub put_line_unique : Unique text_contracts.put_line.ended text.put_line.Reads.Learnt
put_line_unique κs a r s u v p q = by_page u.1 p q

-- lines
pub lines_put_block_unique : Unique lines_contracts.put_block.ended lines.put_block.Reads.Learnt
lines_put_block_unique κs a r s u v p q = by_page u.1 p q

pub put_setup_unique : Unique lines_contracts.put_setup.ended lines.put_setup.Reads.Learnt
put_setup_unique κs a r s u v p q = by_page u.1 p q

pub lines_put_event_unique : Unique lines_contracts.put_event.ended lines.put_event.Reads.Learnt
lines_put_event_unique κs a r s u v p q = by_page u.1 p q

pub put_clock_unique : Unique lines_contracts.put_clock.ended lines.put_clock.Reads.Learnt
put_clock_unique κs a r s u v p q = by_page u.1 p q

pub put_window_unique : Unique lines_contracts.put_window.ended lines.put_window.Reads.Learnt
put_window_unique κs a r s u v p q = by_page u.1 p q

pub lines_put_pulse_unique : Unique lines_contracts.put_pulse.ended lines.put_pulse.Reads.Learnt
lines_put_pulse_unique κs a r s u v p q = by_page u.1 p q

pub put_pair_unique : Unique lines_contracts.put_pair.ended lines.put_pair.Reads.Learnt
put_pair_unique κs a r s u v p q = by_page u.1 p q

pub put_integral_unique : Unique lines_contracts.put_integral.ended lines.put_integral.Reads.Learnt
put_integral_unique κs a r s u v p q = by_page u.1 p q

pub put_time_unique : Unique lines_contracts.put_time.ended lines.put_time.Reads.Learnt
put_time_unique κs a r s u v p q = by_page u.1 p q

pub put_ped_unique : Unique lines_contracts.put_ped.ended lines.put_ped.Reads.Learnt
put_ped_unique κs a r s u v p q = by_page u.1 p q

pub lines_put_end_unique : Unique lines_contracts.put_end.ended lines.put_end.Reads.Learnt
lines_put_end_unique κs a r s u v p q = by_page u.1 p q

pub put_empty_unique : Unique lines_contracts.put_empty.ended lines.put_empty.Reads.Learnt
put_empty_unique κs a r s u v p q = by_page u.1 p q

pub put_refused_unique : Unique lines_contracts.put_refused.ended lines.put_refused.Reads.Learnt
put_refused_unique κs a r s u v p q = by_page u.1 p q

pub put_fill_unique : Unique lines_contracts.put_fill.ended lines.put_fill.Reads.Learnt
put_fill_unique κs a r s u v p q = by_page u.1 p q

-- entries
pub first_word_unique : Unique entries_contracts.first_word.ended entries.first_word.Reads.Learnt
first_word_unique κs a r s u v p q = by_equation p q

pub filler_in_unique : Unique entries_contracts.filler_in.ended entries.filler_in.Reads.Learnt
filler_in_unique κs a r s u v p q = by_equation p.0 q.0

pub list_item_unique : Unique entries_contracts.list_item.ended entries.list_item.Reads.Learnt
list_item_unique κs a r s u v p q = by_page u.1 p q

-- glance
pub put_known_unique : Unique glance_contracts.put_known.ended glance.put_known.Reads.Learnt
put_known_unique κs a r s u v p q = by_page u.1 p q

-- blocklines
pub list_block_unique : Unique blocklines_contracts.list_block.ended blocklines.list_block.Reads.Learnt
list_block_unique κs a r s u v p q = let e = one_block p q in (e.0, λ i. (tt, (e.1 i, (tt, tt))))

-- listing
pub list_unique : Unique listing_contracts.list.ended listing.list.Reads.Learnt
list_unique κs a r s u v p q = let e = one_listing p q in (e.0, λ i. (tt, (e.1 i, tt)))

pub list_long_unique : Unique listing_contracts.list_long.ended listing.list_long.Reads.Learnt
list_long_unique κs a r s u v p q = let e = one_listing p q in (e.0, λ i. (tt, (e.1 i, tt)))

pub fadc250_list_unique : Unique hostread_contracts.fadc250_list.ended hostread.fadc250_list.Reads.Learnt
fadc250_list_unique κs a r s u v p q = let e = one_length p q in (e.0, λ i. (tt, (e.1 i, tt)))

-- rawsamples
pub samples_unique : Unique rawsamples_contracts.samples.ended rawsamples.samples.Reads.Learnt
samples_unique κs a r s u v p q = let e = one_unpacking p q in (e.0, λ i. (tt, (tt, (tt, (e.1 i, tt)))))

pub fadc250_samples_unique : Unique hostread_contracts.fadc250_samples.ended hostread.fadc250_samples.Reads.Learnt
fadc250_samples_unique κs a r s u v p q = let e = one_unpacking p q in (e.0, λ i. (tt, (tt, (tt, (e.1 i, tt)))))

-- ---- reading from C

-- cursors
pub is_scan_unique : Unique cursors_contracts.is_scan.ended cursors.is_scan.Reads.Learnt
is_scan_unique κs a r s u v p q = by_equation p q

pub scan_from_unique : Unique cursors_contracts.scan_from.ended cursors.scan_from.Reads.Learnt
scan_from_unique κs a r s u v p q = by_equation p q

pub put_scan_unique : Unique cursors_contracts.put_scan.ended cursors.put_scan.Reads.Learnt
put_scan_unique κs a r s u v p q = (refl, λ i. (one_result p q i, u.1))

-- ends
pub no_numbers_unique : Unique ends_contracts.no_numbers.ended ends.no_numbers.Reads.Learnt
no_numbers_unique κs a r s u v p q = by_equation p q

pub end_numbers_unique : Unique ends_contracts.end_numbers.ended ends.end_numbers.Reads.Learnt
end_numbers_unique κs a r s u v p q = by_equation p q

-- cells
pub record_numbers_unique : Unique cells_contracts.record_numbers.ended cells.record_numbers.Reads.Learnt
record_numbers_unique κs a r s u v p q = by_equation p q

-- reading
pub reading_next_unique : Unique reading_contracts.next.ended reading.next.Reads.Learnt
reading_next_unique κs a r s u v p q = let e = next_face_unique _ _ _ _ _ _ _ _ _ p q in (e.0, λ i. (e.1.0 i, (tt, (e.1.1 i, tt))))

-- host
pub fadc250_next_unique : Unique hostread_contracts.fadc250_next.ended hostread.fadc250_next.Reads.Learnt
fadc250_next_unique κs a r s u v p q = let e = next_face_unique _ _ _ _ _ _ _ _ _ p q in (e.0, λ i. (e.1.0 i, (tt, (e.1.1 i, tt))))
