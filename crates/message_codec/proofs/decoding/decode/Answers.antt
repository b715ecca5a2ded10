use Rattle.message_codec.proofs.Told.{stopped, told_only, told_first, ok, only, first}
use Rattle.message_codec.proofs.decoding.decode.Goals as goal

pub returns-in-Err-walk-clause-only : goal.returns-in-Err-walk-clause-only
returns-in-Err-walk-clause-only c =
    told_only _ _
    (stopped _ _ c.told.result _ c.in-Ok.ensures.is c.in-Err-walk.ensures.err c.told.ensures.fault c.told.ensures.kind c.told.ensures.hint)

pub returns-in-Err-walk-clause-first : goal.returns-in-Err-walk-clause-first
returns-in-Err-walk-clause-first c =
    told_first _ _
    (stopped _ _ c.told.result _ c.in-Ok.ensures.is c.in-Err-walk.ensures.err c.told.ensures.fault c.told.ensures.kind c.told.ensures.hint)

pub returns-in-Path-clause-ok : goal.returns-in-Path-clause-ok
returns-in-Path-clause-ok c = ok _ _ _ _ _ c.type_inv.bytes c.in-Ok.ensures.is c.in-Ok-walk.ensures.ok c.in-Path.is c.path.ensures

pub returns-in-Path-clause-only : goal.returns-in-Path-clause-only
returns-in-Path-clause-only c = only _ _ _ _ _ c.type_inv.bytes c.in-Ok.ensures.is c.in-Ok-walk.ensures.ok c.in-Path.is c.path.ensures

pub returns-in-Path-clause-first : goal.returns-in-Path-clause-first
returns-in-Path-clause-first c = first _ _ _ _ _ c.type_inv.bytes c.in-Ok.ensures.is c.in-Ok-walk.ensures.ok c.in-Path.is c.path.ensures

pub returns-in-Resv-clause-ok : goal.returns-in-Resv-clause-ok
returns-in-Resv-clause-ok c = ok _ _ _ _ _ c.type_inv.bytes c.in-Ok.ensures.is c.in-Ok-walk.ensures.ok c.in-Resv.is c.resv.ensures

pub returns-in-Resv-clause-only : goal.returns-in-Resv-clause-only
returns-in-Resv-clause-only c = only _ _ _ _ _ c.type_inv.bytes c.in-Ok.ensures.is c.in-Ok-walk.ensures.ok c.in-Resv.is c.resv.ensures

pub returns-in-Resv-clause-first : goal.returns-in-Resv-clause-first
returns-in-Resv-clause-first c = first _ _ _ _ _ c.type_inv.bytes c.in-Ok.ensures.is c.in-Ok-walk.ensures.ok c.in-Resv.is c.resv.ensures

pub returns-in-PathErr-clause-ok : goal.returns-in-PathErr-clause-ok
returns-in-PathErr-clause-ok c = ok _ _ _ _ _ c.type_inv.bytes c.in-Ok.ensures.is c.in-Ok-walk.ensures.ok c.in-PathErr.is c.path_err.ensures

pub returns-in-PathErr-clause-only : goal.returns-in-PathErr-clause-only
returns-in-PathErr-clause-only c = only _ _ _ _ _ c.type_inv.bytes c.in-Ok.ensures.is c.in-Ok-walk.ensures.ok c.in-PathErr.is c.path_err.ensures

pub returns-in-PathErr-clause-first : goal.returns-in-PathErr-clause-first
returns-in-PathErr-clause-first c = first _ _ _ _ _ c.type_inv.bytes c.in-Ok.ensures.is c.in-Ok-walk.ensures.ok c.in-PathErr.is c.path_err.ensures

pub returns-in-ResvErr-clause-ok : goal.returns-in-ResvErr-clause-ok
returns-in-ResvErr-clause-ok c = ok _ _ _ _ _ c.type_inv.bytes c.in-Ok.ensures.is c.in-Ok-walk.ensures.ok c.in-ResvErr.is c.resv_err.ensures

pub returns-in-ResvErr-clause-only : goal.returns-in-ResvErr-clause-only
returns-in-ResvErr-clause-only c = only _ _ _ _ _ c.type_inv.bytes c.in-Ok.ensures.is c.in-Ok-walk.ensures.ok c.in-ResvErr.is c.resv_err.ensures

pub returns-in-ResvErr-clause-first : goal.returns-in-ResvErr-clause-first
returns-in-ResvErr-clause-first c = first _ _ _ _ _ c.type_inv.bytes c.in-Ok.ensures.is c.in-Ok-walk.ensures.ok c.in-ResvErr.is c.resv_err.ensures

pub returns-in-PathTear-clause-ok : goal.returns-in-PathTear-clause-ok
returns-in-PathTear-clause-ok c = ok _ _ _ _ _ c.type_inv.bytes c.in-Ok.ensures.is c.in-Ok-walk.ensures.ok c.in-PathTear.is c.path_tear.ensures

pub returns-in-PathTear-clause-only : goal.returns-in-PathTear-clause-only
returns-in-PathTear-clause-only c = only _ _ _ _ _ c.type_inv.bytes c.in-Ok.ensures.is c.in-Ok-walk.ensures.ok c.in-PathTear.is c.path_tear.ensures

pub returns-in-PathTear-clause-first : goal.returns-in-PathTear-clause-first
returns-in-PathTear-clause-first c = first _ _ _ _ _ c.type_inv.bytes c.in-Ok.ensures.is c.in-Ok-walk.ensures.ok c.in-PathTear.is c.path_tear.ensures

pub returns-in-ResvTear-clause-ok : goal.returns-in-ResvTear-clause-ok
returns-in-ResvTear-clause-ok c = ok _ _ _ _ _ c.type_inv.bytes c.in-Ok.ensures.is c.in-Ok-walk.ensures.ok c.in-ResvTear.is c.resv_tear.ensures

pub returns-in-ResvTear-clause-only : goal.returns-in-ResvTear-clause-only
returns-in-ResvTear-clause-only c = only _ _ _ _ _ c.type_inv.bytes c.in-Ok.ensures.is c.in-Ok-walk.ensures.ok c.in-ResvTear.is c.resv_tear.ensures

pub returns-in-ResvTear-clause-first : goal.returns-in-ResvTear-clause-first
returns-in-ResvTear-clause-first c = first _ _ _ _ _ c.type_inv.bytes c.in-Ok.ensures.is c.in-Ok-walk.ensures.ok c.in-ResvTear.is c.resv_tear.ensures

pub returns-in-ResvConf-clause-ok : goal.returns-in-ResvConf-clause-ok
returns-in-ResvConf-clause-ok c = ok _ _ _ _ _ c.type_inv.bytes c.in-Ok.ensures.is c.in-Ok-walk.ensures.ok c.in-ResvConf.is c.resv_conf.ensures

pub returns-in-ResvConf-clause-only : goal.returns-in-ResvConf-clause-only
returns-in-ResvConf-clause-only c = only _ _ _ _ _ c.type_inv.bytes c.in-Ok.ensures.is c.in-Ok-walk.ensures.ok c.in-ResvConf.is c.resv_conf.ensures

pub returns-in-ResvConf-clause-first : goal.returns-in-ResvConf-clause-first
returns-in-ResvConf-clause-first c = first _ _ _ _ _ c.type_inv.bytes c.in-Ok.ensures.is c.in-Ok-walk.ensures.ok c.in-ResvConf.is c.resv_conf.ensures
