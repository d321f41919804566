mod Places
mod Room
mod Rising
mod Law
