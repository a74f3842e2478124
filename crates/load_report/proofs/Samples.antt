-- The report, computed.
use Rattle.std.proofs.Common.{◌≡◌, codes, refl}
use Rattle.std.specs.Fmt.{digits}
use Rattle.load_report.specs.Report.{lines_of}

one_datagram : lines_of 1 (record { sent = 1; no_session = 0; octets = 186 }) ≡ codes "datagrams 1\nsent 1\nnosession 0\noctets 186\n"
unfolding lines_of digits
one_datagram = refl
