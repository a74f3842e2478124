-- What is told of a measurement (this project's own): eight lines, and one more where it was cut short.
use Rattle.std.specs.Prelude.{ℕ, List, [], ◌++◌, Option, Some, None, codes, decimal}
use Rattle.std.specs.Fmt.{signed_decimal}
use Rattle.conf_text.specs.Faults.{Limit}
use Rattle.conf_check.specs.Lines.{line_end, fault_line}
use Rattle.sender_core.specs.declared.types.Range.{Range}
use Rattle.sender_core.specs.declared.types.Counts.{Counts}

-- behind a text, a line of a word and a number
abbrev pub with_count : List ℕ → List ℕ → ℕ → List ℕ
with_count text word count = text ++ word ++ decimal count ++ line_end

-- behind a text, the least and the greatest delay
abbrev pub with_delays : List ℕ → Range → List ℕ
with_delays text r = text ++ signed_decimal r.least ++ codes " " ++ signed_decimal r.greatest

abbrev pub with_both : List ℕ → Option Range → List ℕ
with_both text None = text ++ codes "none none"
with_both text (Some r) = with_delays text r

-- behind a text, a line of a word, and of the least and the greatest delay where there are any
abbrev pub with_range : List ℕ → List ℕ → Option Range → List ℕ
with_range text word range = with_both (text ++ word) range ++ line_end

unfoldable pub lines_of : Counts → List ℕ
lines_of c =
    let sent = with_count [] (codes "sent ") c.sent in
    let received = with_count sent (codes "received ") c.received in
    let doubles = with_count received (codes "doubles ") c.doubles in
    let strangers = with_count doubles (codes "strangers ") c.strangers in
    let forward_lost = with_count strangers (codes "forward lost ") c.forward_lost in
    let backward_lost = with_count forward_lost (codes "backward lost ") c.backward_lost in
    let forward = with_range backward_lost (codes "forward delay ") c.forward in
    with_range forward (codes "backward delay ") c.backward

-- the port failed, or `recv` was called as often as it may be
abbrev pub port_line : List ℕ
port_line = codes "stampd: port failed" ++ line_end

abbrev pub budget_line : List ℕ
budget_line = codes "stampd: budget spent" ++ line_end

-- there is no port
abbrev pub no_port_line : List ℕ
no_port_line = fault_line (Limit (codes "workers"))
