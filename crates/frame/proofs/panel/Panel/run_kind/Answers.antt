-- The answers of `frame::panel::Panel::run_kind`. Assumes nothing.
use Rattle.frame.proofs.KindWays.{kind_ways}
use Rattle.frame.proofs.panel.Panel.run_kind.Goals as goal

pub returns-in-Judge-default : goal.returns-in-Judge-default
returns-in-Judge-default c = search kind_ways

pub returns-in-Repair-default : goal.returns-in-Repair-default
returns-in-Repair-default c = search kind_ways

pub returns-in-Switch-empty : goal.returns-in-Switch-empty
returns-in-Switch-empty c = search kind_ways

pub returns-in-Stage-len1-up : goal.returns-in-Stage-len1-up
returns-in-Stage-len1-up c = search kind_ways

pub returns-in-PutRow-len1-up : goal.returns-in-PutRow-len1-up
returns-in-PutRow-len1-up c = search kind_ways

pub returns-in-PutRecord-len1-up : goal.returns-in-PutRecord-len1-up
returns-in-PutRecord-len1-up c = search kind_ways

pub returns-in-Drop-len1 : goal.returns-in-Drop-len1
returns-in-Drop-len1 c = search kind_ways

pub returns-in-FetchRecord-len1 : goal.returns-in-FetchRecord-len1
returns-in-FetchRecord-len1 c = search kind_ways

pub returns-in-FetchRow-len1 : goal.returns-in-FetchRow-len1
returns-in-FetchRow-len1 c = search kind_ways

pub returns-in-Image-len1 : goal.returns-in-Image-len1
returns-in-Image-len1 c = search kind_ways

pub returns-in_default : goal.returns-in_default
returns-in_default c = search kind_ways

pub returns-in_default-2 : goal.returns-in_default-2
returns-in_default-2 c = search kind_ways

pub returns-in_default-3 : goal.returns-in_default-3
returns-in_default-3 c = search kind_ways

pub returns-in_default-4 : goal.returns-in_default-4
returns-in_default-4 c = search kind_ways

pub returns-in_default-5 : goal.returns-in_default-5
returns-in_default-5 c = search kind_ways

pub returns-in_default-6 : goal.returns-in_default-6
returns-in_default-6 c = search kind_ways

pub returns-in_default-7 : goal.returns-in_default-7
returns-in_default-7 c = search kind_ways

pub returns-in_default-8 : goal.returns-in_default-8
returns-in_default-8 c = search kind_ways

pub returns-in_default-9 : goal.returns-in_default-9
returns-in_default-9 c = search kind_ways

pub returns-in_default-10 : goal.returns-in_default-10
returns-in_default-10 c = search kind_ways

pub returns-in_default-11 : goal.returns-in_default-11
returns-in_default-11 c = search kind_ways

pub returns-in_default-12 : goal.returns-in_default-12
returns-in_default-12 c = search kind_ways
