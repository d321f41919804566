mod Taking
mod Leading
