-- The lines, computed.
use Rattle.std.proofs.Common.{◌≡◌, length, codes, refl}
use Rattle.std.specs.Fmt.{digits}
use Rattle.conf_text.specs.Faults.{NotToml, Unknown, Missing, BadValue, Limit}
use Rattle.conf_text.specs.File.{File}
use Rattle.conf_check.specs.Lines.{accepted_line, fault_line}

accepted : (f : File) → length f.locals ≡ 2 → length f.configs ≡ 3 → length f.sessions ≡ 40 → accepted_line f ≡ codes "ok locals 2 configs 3 sessions 40\n"
unfolding accepted_line digits
accepted f locals configs sessions = rw (locals, configs, sessions) refl

not_toml : fault_line NotToml ≡ codes "stampd: configuration: not toml\n"
unfolding fault_line
not_toml = refl

unknown : fault_line (Unknown (codes "a\nb")) ≡ codes "stampd: configuration: unknown a\nb\n"
unfolding fault_line
unknown = refl

missing : fault_line (Missing (codes "locals")) ≡ codes "stampd: configuration: missing locals\n"
unfolding fault_line
missing = refl

bad_value : fault_line (BadValue (codes "sessions.3.peer")) ≡ codes "stampd: configuration: bad sessions.3.peer\n"
unfolding fault_line
bad_value = refl

limit : fault_line (Limit (codes "slots")) ≡ codes "stampd: configuration: limit slots\n"
unfolding fault_line
limit = refl
