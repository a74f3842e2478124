use Rattle.std.proofs.Common.{◌≡◌, drop}
use Rattle.port_io.specs.Files.{content}
use Rattle.port_io.specs.MemFiles.{files_of}
use Rattle.port_io.proofs.mem_files.content_of.Given as goal

abbrev pub invariant-loop-at : goal.invariant-loop-at
invariant-loop-at l = content l.name (files_of (drop l.at l.names) (drop l.at l.contents)) ≡ content l.name (files_of l.names l.contents)
