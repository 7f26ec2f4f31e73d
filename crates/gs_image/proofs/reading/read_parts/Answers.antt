use Rattle.std.proofs.Common.{rules, refl, length, ◌-◌, take}
use Rattle.gs_image.specs.Refused.{pointed}
use Rattle.gs_image.proofs.Finding.{all_found, end_refused, whole_found}
use Rattle.gs_image.proofs.reading.read_parts.Goals as goal

pub returns-in_err-judge_end : goal.returns-in_err-judge_end
returns-in_err-judge_end c =
    let found = c.in_ok-found.found in
    let bytes = c.args.bytes.now in
    let before = take (length bytes - length found.rest.now) bytes in
    let all = all_found found.parts.items c.in_ok-front.front.count c.in_ok-front.front.rest.now found.rest.now bytes before (search rules) c.in_ok-front.ensures c.in_ok-found.ensures refl in
    let stopped = end_refused c.in_err-judge_end.field-0.0 (pointed found.parts.items) before found.rest.now bytes all c.in_err-judge_end.ensures in
    search rules

pub returns : goal.returns
returns c =
    let found = c.in_ok-found.found in
    let bytes = c.args.bytes.now in
    let before = take (length bytes - length found.rest.now) bytes in
    let all = all_found found.parts.items c.in_ok-front.front.count c.in_ok-front.front.rest.now found.rest.now bytes before (search rules) c.in_ok-front.ensures c.in_ok-found.ensures refl in
    whole_found (pointed found.parts.items) before found.rest.now bytes all c.in_ok-judge_end.ensures
