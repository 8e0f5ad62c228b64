-- The numbers of the phases. Assumes nothing.
use Rattle.std.specs.Prelude.{◌≡◌, ℕ, ◌<◌, Result, MatchResult}
use Rattle.area.specs.declared.phases.ReaderPhase.{ReaderPhase}
use Rattle.area.specs.declared.phases.ReaderPhase.TheVariants as reader
use Rattle.area.specs.declared.phases.WriterPhase.{WriterPhase}
use Rattle.area.specs.declared.phases.WriterPhase.TheVariants as writer
use Rattle.area.specs.declared.phases.UnknownPhase.{UnknownPhase}

abbrev pub reader_number : ReaderPhase → ℕ
reader_number reader.Idle = 0
reader_number reader.Compares = 1
reader_number reader.Unbinds = 2
reader_number reader.Binds = 3
reader_number reader.Takes = 4
reader_number reader.Copies = 5

abbrev pub writer_number : WriterPhase → ℕ
writer_number writer.Idle = 0
writer_number writer.Looks = 1
writer_number writer.Fills = 2
writer_number writer.Sizes = 3
writer_number writer.ClearsStart = 4
writer_number writer.ClearsEnd = 5
writer_number writer.Publishes = 6
writer_number writer.Freezes = 7

-- the phase with this number, or the number where no phase has it
abbrev pub IsReaderPhase : ℕ → Result ReaderPhase UnknownPhase → Type 0
IsReaderPhase n r = MatchResult r (λ p. reader_number p ≡ n) (λ e. (e.0 ≡ n) × (5 < n))

abbrev pub IsWriterPhase : ℕ → Result WriterPhase UnknownPhase → Type 0
IsWriterPhase n r = MatchResult r (λ p. writer_number p ≡ n) (λ e. (e.0 ≡ n) × (7 < n))
