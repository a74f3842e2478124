-- The definition of the file, computed on small files.
use Rattle.std.proofs.Common.{◌≡◌, ℕ, pos, ◌-◌, ◌^◌, true, false, List, [], ◌∷◌, ◌++◌, codes, replicate, Option, Some, None, Result, Ok, Err, refl}
use Rattle.std.specs.Str.{is_utf8, chars}
use Rattle.std.specs.Fmt.{digits}
use Rattle.toml.proofs.OnLiterals.{toml_on_literals}
use Rattle.hex.proofs.OnLiterals.{hex_on_literals}
use Rattle.refl_types.specs.declared.types.Address.TheVariants.{V4, V6}
use Rattle.refl_types.specs.declared.types.Endpoint.{Endpoint}
use Rattle.refl_types.specs.declared.types.Mode.TheVariants.{Plain, Auth, Twamp}
use Rattle.refl_types.specs.declared.config.Clock.TheVariants.{Ntp, Ptp}
use Rattle.refl_types.specs.declared.config.ConfigParts.{ConfigParts}
use Rattle.refl_types.specs.Same.{same_key, same_config}
use Rattle.session_key.specs.Matching.{excludes}
use Rattle.text_forms.specs.Endpoints.{groups_at, v6_at}
use Rattle.conf_text.specs.Faults.{Fault, Missing, BadValue, Limit, Unknown, NotToml}
use Rattle.conf_text.specs.Tables.{places}
use Rattle.conf_text.specs.Configs.{config_of, named_of, all_named}
use Rattle.conf_text.specs.Sessions.{values_of, values_at, session_of}
use Rattle.conf_text.specs.Rows.{distinct}
use Rattle.conf_text.specs.File.{File, numbers_of, file_of, file_in}

-- nothing is there
empty : file_in (codes "") ≡ Err (Missing (codes "locals"))
unfolding toml_on_literals hex_on_literals is_utf8 chars digits places config_of named_of all_named values_of values_at session_of excludes same_key same_config numbers_of groups_at v6_at distinct file_of
empty = refl

-- no TOML
broken : file_in (codes "=") ≡ Err NotToml
unfolding toml_on_literals hex_on_literals is_utf8 chars digits places config_of named_of all_named values_of values_at session_of excludes same_key same_config numbers_of groups_at v6_at distinct file_of
broken = refl

-- the first unknown key in byte order
wrong_key : file_in (codes "aa = 1\nab = 1\n") ≡ Err (Unknown (codes "aa"))
unfolding toml_on_literals hex_on_literals is_utf8 chars digits places config_of named_of all_named values_of values_at session_of excludes same_key same_config numbers_of groups_at v6_at distinct file_of
wrong_key = refl

-- the place of a list that is wrong
wrong_place : file_in (codes "configs = 3\nlocals = [\"192.0.2.1:862\", \"192.0.2.1:0862\"]") ≡ Err (BadValue (codes "locals.1"))
unfolding toml_on_literals hex_on_literals is_utf8 chars digits places config_of named_of all_named values_of values_at session_of excludes same_key same_config numbers_of groups_at v6_at distinct file_of
wrong_place = refl

-- keys come in the order of the definition, and not in that of the file
first_by_table : file_in (codes "locals = [\"192.0.2.1:862\"]\nslots = 0\nworkers = 65\n[configs]\n") ≡ Err (Limit (codes "workers"))
unfolding toml_on_literals hex_on_literals is_utf8 chars digits places config_of named_of all_named values_of values_at session_of excludes same_key same_config numbers_of groups_at v6_at distinct file_of
first_by_table = refl

-- a fault below a name
deep : file_in (codes "locals = [\"192.0.2.1:862\"]\nconfigs.edge.tlvs = [3, 4]\n") ≡ Err (BadValue (codes "configs.edge.tlvs.1"))
unfolding toml_on_literals hex_on_literals is_utf8 chars digits places config_of named_of all_named values_of values_at session_of excludes same_key same_config numbers_of groups_at v6_at distinct file_of
deep = refl

-- an IPv6 peer in a text that isn't full
second_session : file_in (codes "locals = [\"192.0.2.1:862\"]\nconfigs.edge = {}\nsessions = [{peer = \"[2001:0db8:0000:0000:0000:0000:0000:0001]:5000\", config = \"edge\"}, {peer = \"[2001:db8::1]:5000\", config = \"edge\"}]\n") ≡ Err (BadValue (codes "sessions.1.peer"))
unfolding toml_on_literals hex_on_literals is_utf8 chars digits places config_of named_of all_named values_of values_at session_of excludes same_key same_config numbers_of groups_at v6_at distinct file_of
second_session = refl

-- two sessions of one key
same_session : file_in (codes "locals = [\"192.0.2.1:862\"]\nconfigs.edge = {}\nsessions = [{peer = \"192.0.2.9:5000\", config = \"edge\"}, {peer = \"192.0.2.9:5000\", config = \"edge\", wait = 5}]\n") ≡ Err (BadValue (codes "sessions.1"))
unfolding toml_on_literals hex_on_literals is_utf8 chars digits places config_of named_of all_named values_of values_at session_of excludes same_key same_config numbers_of groups_at v6_at distinct file_of
same_session = refl

-- two configurations that differ, and one row
too_many_rows : file_in (codes "locals = [\"192.0.2.1:862\"]\nrows = 1\nconfigs.a = {}\nconfigs.b = {scale = 1}\nsessions = [{peer = \"192.0.2.9:5000\", config = \"a\"}, {peer = \"192.0.2.8:5000\", config = \"b\"}]\n") ≡ Err (Limit (codes "rows"))
unfolding toml_on_literals hex_on_literals is_utf8 chars digits places config_of named_of all_named values_of values_at session_of excludes same_key same_config numbers_of groups_at v6_at distinct file_of
too_many_rows = refl

-- ---- files that are accepted

abbrev local_1 : Endpoint
local_1 = record { address = V4 (192 ∷ 0 ∷ 2 ∷ 1 ∷ []); port = 862 }

abbrev defaults : ConfigParts
defaults = record { stateful = true; clock = Ntp; offset = 0; synced = false; scale = 0; multiplier = 1; info = 0 ∷ 0 ∷ 0 ∷ 0 ∷ []; tlvs = 40; key = None }

-- what must be there, and every default
least : file_in (codes "locals = [\"192.0.2.1:862\"]\n[configs.edge]\n") ≡ Ok (record { locals = local_1 ∷ []; workers = 1; slots = 1024; rows = 64; limit = 0; turns = 9223372036854775807; control = None; operator = None; twamp = None; configs = record { name = codes "edge"; config = defaults } ∷ []; sessions = [] })
unfolding toml_on_literals hex_on_literals is_utf8 chars digits places config_of named_of all_named values_of values_at session_of excludes same_key same_config numbers_of groups_at v6_at distinct file_of
least = refl

-- every number of the root, and both ends
all_of_the_root : file_in (codes "locals = [\"192.0.2.1:862\", \"[2001:0db8:0000:0000:0000:0000:0000:0001]:862\"]\nworkers = 64\nslots = 16384\nrows = 8191\nlimit = 5\nturns = 6\ncontrol = \"192.0.2.1:862\"\noperator = \"127.0.0.1:8620\"\ntwamp = \"edge\"\n[configs.edge]\n") ≡ Ok (record { locals = local_1 ∷ record { address = V6 (0x20 ∷ 1 ∷ 0x0d ∷ 0xb8 ∷ (replicate 11 0 ++ 1 ∷ [])); port = 862 } ∷ []; workers = 64; slots = 16384; rows = 8191; limit = 5; turns = 6; control = Some local_1; operator = Some (record { address = V4 (127 ∷ 0 ∷ 0 ∷ 1 ∷ []); port = 8620 }); twamp = Some defaults; configs = record { name = codes "edge"; config = defaults } ∷ []; sessions = [] })
unfolding toml_on_literals hex_on_literals is_utf8 chars digits places config_of named_of all_named values_of values_at session_of excludes same_key same_config numbers_of groups_at v6_at distinct file_of
all_of_the_root = refl

-- every key of a configuration
all_of_a_configuration : file_in (codes "locals = [\"192.0.2.1:862\"]\n[configs.edge]\nstateful = false\nformat = \"ptp\"\noffset = 37\nsynced = true\nscale = 63\nmultiplier = 255\nkey = \"00fF\"\ninfo = \"0A0b0C0d\"\ntlvs = [9, 3]\n") ≡ Ok (record { locals = local_1 ∷ []; workers = 1; slots = 1024; rows = 64; limit = 0; turns = 9223372036854775807; control = None; operator = None; twamp = None; configs = record { name = codes "edge"; config = record { stateful = false; clock = Ptp; offset = 37; synced = true; scale = 63; multiplier = 255; info = 10 ∷ 11 ∷ 12 ∷ 13 ∷ []; tlvs = 520; key = Some (0 ∷ 255 ∷ replicate 62 0) } } ∷ []; sessions = [] })
unfolding toml_on_literals hex_on_literals is_utf8 chars digits places config_of named_of all_named values_of values_at session_of excludes same_key same_config numbers_of groups_at v6_at distinct file_of
all_of_a_configuration = refl

-- every key of a session, and a session without them
all_of_a_session : file_in (codes "locals = [\"192.0.2.1:862\"]\nconfigs.edge = {}\nsessions = [{local = 0, peer = \"192.0.2.9:5000\", mode = \"twamp\", ssid = 0, config = \"edge\", wait = 60, reflect = 4, symmetrical = true}, {peer = \"192.0.2.8:5000\", config = \"edge\"}]\n") ≡ Ok (record { locals = local_1 ∷ []; workers = 1; slots = 1024; rows = 64; limit = 0; turns = 9223372036854775807; control = None; operator = None; twamp = None; configs = record { name = codes "edge"; config = defaults } ∷ []; sessions = record { key = record { local = 0; peer = record { address = V4 (192 ∷ 0 ∷ 2 ∷ 9 ∷ []); port = 5000 }; mode = Twamp; ssid = 0 }; extra = record { symmetrical = true; reflect = 4 }; config = defaults; wait = 60000000000 } ∷ record { key = record { local = 0; peer = record { address = V4 (192 ∷ 0 ∷ 2 ∷ 8 ∷ []); port = 5000 }; mode = Plain; ssid = 0 }; extra = record { symmetrical = false; reflect = 0 }; config = defaults; wait = 0 } ∷ [] })
unfolding toml_on_literals hex_on_literals is_utf8 chars digits places config_of named_of all_named values_of values_at session_of excludes same_key same_config numbers_of groups_at v6_at distinct file_of
all_of_a_session = refl
